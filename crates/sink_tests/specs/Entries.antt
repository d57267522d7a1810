-- What an entry means: a piece.
use Rattle.rules.specs.Pieces.{Chunk}
use Rattle.sink.specs.Pieces.{kind_of}
use Rattle.sink_tests.specs.declared.entry.Entry.{Entry}

abbrev pub entry_chunk : Entry → Chunk
entry_chunk e = record { kind = kind_of e.kind; bytes = e.bytes.items }
