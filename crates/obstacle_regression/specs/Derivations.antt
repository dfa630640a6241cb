-- Where a candidate comes from: it is the first one, or given of another one by a rule.
use Rattle.std.specs.Prelude.{List, Contains, IsTrue}
use Rattle.bound_unfolding.specs.CoreForm.{CoreForm}
use Rattle.formula_table.specs.Tables.{IsSubformula}
use Rattle.obstacle_regression.specs.Replacements.{gives, replaced}
use Rattle.obstacle_regression.specs.Candidates.{RuleCores}

pub data IsDerived (rules : List RuleCores) (first : CoreForm) : CoreForm → Type 0 where
  is_first : IsDerived rules first first
  is_given : (c l : CoreForm) (r : RuleCores) → IsDerived rules first c → IsSubformula l c → Contains rules r → IsTrue (gives r.effect l)
      → IsDerived rules first (replaced l r.cause c)
