-- A call to a table of the code as a call of the rules.
use Rattle.rules.specs.Runs.{Call as RulesCall, open_with, enter, withdraw}
use Rattle.hunks.specs.declared.run.Call.{Call}
use Rattle.hunks.specs.declared.run.Call.TheVariants.{Open, Enter, Withdraw}

-- The call of the rules that a call of the code stands for.
abbrev pub call_of : Call → RulesCall
call_of (Open a c o) = open_with a c o
call_of (Enter h) = enter h
call_of (Withdraw side) = withdraw side
