-- What a page holds.
use Rattle.std.specs.Prelude.{ℕ, List, take, drop}
use Rattle.sink.specs.declared.page.Page.{Page}

-- A page's value is the bytes taken, which stand at the front of its buffer.
abbrev pub page_value : Page → List ℕ
page_value s = take s.meter.taken s.buffer.now

-- What stands in the buffer from a place on, together with which memory it is, so that a caller who lent it learns of his own.
abbrev pub page_rest : Page → ℕ → ℕ × List ℕ
page_rest s k = (s.buffer.ghost_name, drop k s.buffer.now)
