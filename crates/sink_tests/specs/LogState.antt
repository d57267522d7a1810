-- What a log's fields mean.
use Rattle.std.specs.Prelude.{map}
use Rattle.sink_tests.specs.Entries.{entry_chunk}
use Rattle.sink_tests.specs.Logs.{LogValue}
use Rattle.sink_tests.specs.declared.log.Log.{Log}

abbrev pub log_value : Log → LogValue
log_value s = record { pieces = map entry_chunk s.entries.items; lost = s.lost }
