-- The faults of bytes and those of what they say.
use Rattle.std.proofs.Common.{◌≡◌, inr, ℕ, ◌≤◌, List, length, Some, None, sym, ◌∙◌, subst}
use Rattle.serde_json.specs.Data.{Data}
use Rattle.iam_world.specs.Code.ViewFault.{IsFirstViewFault}
use Rattle.iam_shape.specs.Shape.{first_bad, shape_checks}
use Rattle.iam_shape.specs.View.{WorldViewValue, IsView}
use Rattle.iam_world.specs.WorldFault.{IsFirstWorldFault, IsJson, ViewHasFault, WorldHasFault}
use Rattle.iam_world.specs.declared.fault.WorldFault.{WorldFault}
use Rattle.iam_world.specs.declared.fault.WorldFault.TheVariants.{NotJson, BadShape, OutOfMemory}

-- bytes are the text of one value
pub one_json : (bytes : List ℕ) (d e : Data) → IsJson bytes d → IsJson bytes e → d ≡ e
one_json bytes d e one two = let same : Some d ≡ Some e = sym one.1 ∙ two.1 in cc

-- a document says one thing
abbrev pub OneView : Type 0
OneView = (d : Data) (view other : WorldViewValue) → IsView d view → IsView d other → view ≡ other

-- the bytes are a text of a JSON value that says something of which P holds
abbrev pub HasView : List ℕ → (WorldViewValue → Type 0) → Type 0
HasView bytes P = (d : Data) × IsJson bytes d × ((world : WorldViewValue) × IsView d world × P world)

-- what bytes say is one thing
pub view_is : (one_view : OneView) (bytes : List ℕ) (d : Data) (world : WorldViewValue) → IsJson bytes d → IsView d world → (P : WorldViewValue → Type 0) → HasView bytes P → P world
view_is one_view bytes d world json says P (e, json', (other, says', holds)) =
    let same : other ≡ world = one_view d other world (subst (λ x. IsView x other) (one_json bytes e d json' json) says') says in subst P same holds

-- the faults of a document of the right shape are those of what it says
pub to_view : (one_view : OneView) (bytes : List ℕ) (d : Data) (world : WorldViewValue) → IsJson bytes d → first_bad (shape_checks d) ≡ None → IsView d world → (fault : WorldFault)
    → WorldHasFault bytes fault → ViewHasFault world fault
to_view one_view bytes d world json clear says NotJson has = absurd (has d json)
to_view one_view bytes d world json clear says (BadShape path) (e, json', bad) =
    let same : first_bad (shape_checks d) ≡ Some path = subst (λ x. first_bad (shape_checks x) ≡ Some path) (one_json bytes e d json' json) bad in
    let wrong : None ≡ Some path = sym clear ∙ same in
    cc
to_view one_view bytes d world json clear says OutOfMemory has = has
to_view one_view bytes d world json clear says fault has = view_is one_view bytes d world json says (λ w. ViewHasFault w fault) has

from_view : (bytes : List ℕ) (d : Data) (world : WorldViewValue) → IsJson bytes d → IsView d world → (fault : WorldFault) → ViewHasFault world fault → WorldHasFault bytes fault
from_view bytes d world json says NotJson has = absurd has
from_view bytes d world json says (BadShape path) has = absurd has
from_view bytes d world json says OutOfMemory has = absurd has
from_view bytes d world json says fault has = (d, json, (world, says, has))

-- ---- the first fault

-- a document of the right shape
pub first_of_view : (one_view : OneView) (bytes : List ℕ) (d : Data) (world : WorldViewValue) → length bytes ≤ 8388608 → IsJson bytes d → first_bad (shape_checks d) ≡ None → IsView d world
    → (fault : WorldFault) → IsFirstViewFault world fault → IsFirstWorldFault bytes fault
first_of_view one_view bytes d world short json clear says fault first =
    inr (
      short,
      record {
        holds = from_view bytes d world json says fault first.holds;
        least = λ other has. first.least other (to_view one_view bytes d world json clear says other has);
      },
    )
