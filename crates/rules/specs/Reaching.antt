-- What the computed tests of the rings come to: edges lead, and names share a component, exactly where the tests say so.
use Rattle.std.specs.Prelude.{◌≡◌, true, List}
use Rattle.rules.specs.Tree.{Name}
use Rattle.rules.specs.Names.{among}
use Rattle.rules.specs.Tables.{EdgeRow}
use Rattle.rules.specs.Rings.{Leads, leads, component}

-- `leads` says whether edges lead from a to b
abbrev pub LeadsTold : Type 0
LeadsTold = (edges : List EdgeRow) (a b : Name) → (leads edges a b ≡ true → Leads edges a b) × (Leads edges a b → leads edges a b ≡ true)

-- two names share a component exactly if edges lead from each to the other
abbrev pub ComponentTold : Type 0
ComponentTold = (edges : List EdgeRow) (a b : Name) →
    (among b (component edges a) ≡ true → Leads edges a b × Leads edges b a) × (Leads edges a b × Leads edges b a → among b (component edges a) ≡ true)
