-- What a sink answers.
use Rattle.std.specs.Prelude.{ℕ, ◌+◌, ◌-◌, cond, List, [], ◌∷◌, Some, None, Option, Ok, Err, Result, nat_le}
use Rattle.rules.specs.Pieces.{Chunk, size}
use Rattle.sink.specs.declared.refusal.NoRoom.{NoRoom}
use Rattle.sink.specs.declared.refusal.TooLong.{TooLong}
use Rattle.sink.specs.declared.refusal.Unwritten.{Unwritten}
use Rattle.sink.specs.declared.refusal.Unwritten.TheVariants as why

-- The largest number of bytes that the code counts.
abbrev pub largest : ℕ
largest = 18446744073709551615

-- Begin with n is accepted exactly when n is at most the capacity. A refusal tells the capacity.
abbrev pub begin_answer : ℕ → ℕ → Result (Unit {0}) TooLong
begin_answer n capacity = cond (nat_le n capacity) (Ok tt) (Err (record { capacity = capacity }))

-- A piece is taken exactly when the bytes taken and its own are at most those announced. A refusal tells how many may still come.
abbrev pub take_answer : ℕ → ℕ → ℕ → Result (Unit {0}) NoRoom
take_answer taken announced n = cond (nat_le (taken + n) announced) (Ok tt) (Err (record { room = announced - taken }))

-- How many of the pieces, from the first on, find room one after another.
abbrev pub fitting : ℕ → ℕ → List Chunk → ℕ
fitting taken announced [] = 0
fitting taken announced (c ∷ cs) = cond (nat_le (taken + size c) announced) (fitting (taken + size c) announced cs + 1) 0

-- A length, where it can be counted.
abbrev pub counted : ℕ → Option ℕ
counted n = cond (nat_le n largest) (Some n) None

-- Pieces are written exactly when their length can be counted and is at most the sink's capacity.
abbrev pub write_answer : ℕ → ℕ → Result (Unit {0}) Unwritten
write_answer needed capacity =
    cond (nat_le needed largest) (cond (nat_le needed capacity) (Ok tt) (Err (why.TooLong needed capacity))) (Err why.Uncountable)
