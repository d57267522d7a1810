-- Decimal numbers in a line.
use Rattle.std.specs.Prelude.{ℕ, ◌+◌, ◌-◌, ◌*◌, ◌^◌, ◌<◌, Bool, cond, ◌&&◌, List, [], ◌∷◌, take, drop, Some, None, Option, nat_le, nat_lt}
use Rattle.std.specs.List.{prefix_len}
use Rattle.job.specs.Words.{after, and_then, or_else, with_rest}

abbrev pub is_digit : ℕ → Bool
is_digit b = nat_le 48 b && nat_le b 57

-- How many digits stand at the front of a line.
abbrev pub digit_count : List ℕ → ℕ
digit_count line = prefix_len is_digit line

-- The number that digits write behind those that are read already.
abbrev pub value_on : ℕ → List ℕ → ℕ
value_on n [] = n
value_on n (b ∷ bs) = value_on (n * 10 + (b - 48)) bs

-- A number fits 32 bits.
abbrev pub Fits32 : ℕ → Type 0
Fits32 n = n < 2 ^ 32

abbrev pub fitting : ℕ → Option ℕ
fitting n = cond (nat_lt n (2 ^ 32)) (Some n) None

-- The number that digits write: there is one digit at least, zeros may lead, and the number fits.
abbrev pub number_of : List ℕ → Option ℕ
number_of [] = None
number_of (d ∷ ds) = fitting (value_on 0 (d ∷ ds))

-- The number at the front of a line, as far as digits go, and what follows it.
abbrev pub front_number : List ℕ → Option (ℕ × List ℕ)
front_number line = with_rest (number_of (take (digit_count line) line)) (drop (digit_count line) line)

-- The same with a mark behind the number, and what follows the mark.
abbrev pub with_mark : List ℕ → ℕ → List ℕ → Option (ℕ × List ℕ)
with_mark mark n rest = or_else (after mark rest) (λ left. Some (n, left)) None

abbrev pub number_then : List ℕ → List ℕ → Option (ℕ × List ℕ)
number_then mark line = and_then (front_number line) (with_mark mark)

-- The number that a whole line is.
abbrev pub at_end : ℕ → List ℕ → Option ℕ
at_end n [] = Some n
at_end n (b ∷ bs) = None

abbrev pub last_number : List ℕ → Option ℕ
last_number line = and_then (front_number line) at_end
