use Rattle.merge.proofs.Agreeing.{units_told, kinds_agree}
use Rattle.merge.proofs.units.render_units.Goals as goal

pub returns-clause-told : goal.returns-clause-told
returns-clause-told g c = units_told _ _ _ _ _ _ _ _ c.render.ensures.keeps c.render-2.ensures.keeps

pub returns-clause-law : goal.returns-clause-law
returns-clause-law g c = kinds_agree _ _ _ _
