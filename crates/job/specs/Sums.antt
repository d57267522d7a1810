-- The summing up of a job.
use Rattle.std.specs.Prelude.{ℕ, List, length, ◌==◌, count_by}
use Rattle.job.specs.declared.outcome.Outcome.{Outcome}
use Rattle.job.specs.declared.outcome.Outcome.TheVariants.{Done, Refused, Failed, NotUnderstood}
use Rattle.job.specs.declared.outcome.Summary.{Summary}

-- The outcomes are numbered, so that two can be compared.
abbrev pub place : Outcome → ℕ
place Done = 0
place Refused = 1
place Failed = 2
place NotUnderstood = 3

-- How many of a list are a given outcome.
abbrev pub count_of : Outcome → List Outcome → ℕ
count_of which os = count_by (λ o. place o == place which) os

abbrev pub summed : List Outcome → Summary
summed os = record { commands = length os; done = count_of Done os; refused = count_of Refused os; failed = count_of Failed os; not_understood = count_of NotUnderstood os }
