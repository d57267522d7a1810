-- What a row sink's fields mean.
use Rattle.sink.specs.Rows.{RowValue}
use Rattle.sink.specs.declared.row.Row.{Row}

abbrev pub row_value : Row → RowValue
row_value s = record { wanted = s.wanted; newlines = s.newlines; bytes = s.bytes.items }
