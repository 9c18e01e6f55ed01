-- How the walk works, beside the definitions that it meets (`Kinds`).
use Rattle.std.specs.Prelude.{◌≡◌, ◌↔◌, ◌<◌, ◌+◌, ◌==◌, ◌&&◌, ℕ, Bool, true, false, List, [], ◌∷◌, length, map, drop, All, Contains, filter, Option, Some, None, if◌then◌else◌}
use Rattle.std.specs.Option.{option_map_or}
use Rattle.std.specs.List.{filter_map, flat_map, list_any, range_with_len, slice_get, slice_index_or}
use Rattle.iam_glob.specs.Glob.{Matches, folded, sign_by}
use Rattle.iam_glob.specs.declared.sign.Sign.{Sign}
use Rattle.iam_glob.specs.declared.sign.Sign.TheVariants.{Given, One, Any}
use Rattle.iam_kinds.specs.Kinds.{is_any_in, is_name_in, is_service_in}
use Rattle.iam_kinds.specs.declared.grammar.Grammar.{Grammar}
use Rattle.iam_kinds.specs.declared.grammar.Grammar.TheVariants.{AnyText, Action, FoldedText, FoldedAction}
use Rattle.iam_kinds.specs.declared.grammar.Stage.{Stage}
use Rattle.iam_kinds.specs.declared.grammar.Part.{Part}
use Rattle.iam_kinds.specs.declared.grammar.Part.TheVariants.{Anywhere, Start, Service, Colon, Name}
use Rattle.iam_kinds.specs.declared.table.Pattern.{Pattern}
use Rattle.iam_kinds.specs.declared.table.Place.{Place}

-- the stage at a part
abbrev pub stage_at : Part → Bool → Stage
stage_at part fold = record { part = part; fold = fold }

-- the stage before any character
abbrev pub first_stage : Grammar → Stage
first_stage AnyText = stage_at Anywhere false
first_stage Action = stage_at Start false
first_stage FoldedText = stage_at Anywhere true
first_stage FoldedAction = stage_at Start true

-- the stage behind one more character
abbrev pub next_part : Part → Bool → ℕ → Option Stage
next_part Anywhere fold c = if is_any_in fold c then Some (stage_at Anywhere fold) else None
next_part Start fold c = if is_service_in fold c then Some (stage_at Service fold) else None
next_part Service fold c = if is_service_in fold c then Some (stage_at Service fold) else (if c == 58 then Some (stage_at Colon fold) else None)
next_part Colon fold c = if is_name_in fold c then Some (stage_at Name fold) else None
next_part Name fold c = if is_name_in fold c then Some (stage_at Name fold) else None

abbrev pub next_stage : Stage → ℕ → Option Stage
next_stage stage c = next_part stage.part stage.fold c

-- whether the text is whole
abbrev pub is_last_part : Part → Bool
is_last_part Anywhere = true
is_last_part Start = false
is_last_part Service = false
is_last_part Colon = false
is_last_part Name = true

abbrev pub is_last_stage : Stage → Bool
is_last_stage stage = is_last_part stage.part

abbrev pub part_number : Part → ℕ
part_number Anywhere = 0
part_number Start = 1
part_number Service = 2
part_number Colon = 3
part_number Name = 4

abbrev pub stage_number : Stage → ℕ
stage_number stage = if stage.fold then part_number stage.part + 5 else part_number stage.part

-- ---- patterns and places
-- a place of a pattern
abbrev pub place_at : ℕ → ℕ → Place
place_at pattern at = record { pattern = pattern; at = at }

-- the pattern as folding leaves it
abbrev pub folded_pattern : Pattern → Pattern
folded_pattern p = record { group = p.group; signs = map (sign_by folded) p.signs }

-- the pattern of a place, what is left of it there, and its group
abbrev pub rest_at : List Pattern → Place → List Sign
rest_at patterns k = option_map_or (λ p. drop k.at p.signs) (slice_get patterns k.pattern) []

abbrev pub group_at : List Pattern → Place → ℕ
group_at patterns k = option_map_or (λ p. p.group) (slice_get patterns k.pattern) 0

-- nothing but the last `Any` is left
abbrev pub is_last_any : List Sign → Bool
is_last_any [] = false
is_last_any (Given c ∷ signs) = false
is_last_any (One ∷ signs) = false
is_last_any (Any ∷ []) = true
is_last_any (Any ∷ (sign ∷ signs)) = false

-- only `Any`s are left
abbrev pub are_any : List Sign → Bool
are_any [] = true
are_any (Given c ∷ signs) = false
are_any (One ∷ signs) = false
are_any (Any ∷ signs) = are_any signs

-- the character that is waited for
abbrev pub waits_for : List Sign → Option ℕ
waits_for [] = None
waits_for (Given c ∷ signs) = Some c
waits_for (One ∷ signs) = None
waits_for (Any ∷ signs) = waits_for signs

-- the places that a character leads to from a place at which these signs are left
abbrev pub moves_from : ℕ → ℕ → List Sign → ℕ → List Place
moves_from p at [] c = []
moves_from p at (Given d ∷ signs) c = if d == c then place_at p (at + 1) ∷ [] else []
moves_from p at (One ∷ signs) c = place_at p (at + 1) ∷ []
moves_from p at (Any ∷ signs) c = place_at p at ∷ moves_from p (at + 1) signs c

abbrev pub moves_of : List Pattern → ℕ → Place → List Place
moves_of patterns c k = moves_from k.pattern k.at (rest_at patterns k) c

-- a character leads on from a place at which these signs are left
abbrev pub goes_on : List Sign → ℕ → Bool
goes_on [] c = false
goes_on (Given d ∷ signs) c = d == c
goes_on (One ∷ signs) c = true
goes_on (Any ∷ signs) c = true

-- it does from some place of the group
abbrev pub group_goes_on : List Pattern → List Place → ℕ → ℕ → Bool
group_goes_on patterns places c g = list_any (λ k. (group_at patterns k == g) && goes_on (rest_at patterns k) c) places

-- the group has matched for good
abbrev pub is_good : List Pattern → List Place → ℕ → Bool
is_good patterns places g = list_any (λ k. is_last_any (rest_at patterns k) && (group_at patterns k == g)) places

-- the groups that have
abbrev pub good_groups : List Pattern → List Place → List ℕ
good_groups patterns places = map (group_at patterns) (filter (λ k. is_last_any (rest_at patterns k)) places)

-- the place that a place becomes where its group has matched for good
abbrev pub settled_place : List Pattern → List Place → Place → Place
settled_place patterns places k =
    if is_good patterns places (group_at patterns k) then place_at (group_at patterns k) 0 else k

abbrev pub settled_places : List Pattern → List Place → List Place
settled_places patterns places = map (settled_place patterns places) places

-- the same elements
abbrev pub SameElements : {A : Type 0} → List A → List A → Type 0
SameElements {A} xs ys = (x : A) → Contains xs x ↔ Contains ys x

-- each place is one of a pattern
abbrev pub AreIn : List Pattern → List Place → Type 0
AreIn patterns places = All (λ k. k.pattern < length patterns) places

-- the places behind one more character
abbrev pub stepped : List Pattern → List Place → ℕ → List Place
stepped patterns places c = settled_places patterns (flat_map (moves_of patterns c) places)

-- the places where so many patterns begin, from this one on
abbrev pub starts_from : ℕ → ℕ → List Place
starts_from first count = map (λ i. place_at i 0) (range_with_len first count)

-- the groups that match the text behind which these places are
abbrev pub matched_groups : List Pattern → List Place → List ℕ
matched_groups patterns places = map (group_at patterns) (filter (λ k. are_any (rest_at patterns k)) places)

-- the characters that are waited for
abbrev pub waited_at : List Pattern → List Place → List ℕ
waited_at patterns places = filter_map (λ k. waits_for (rest_at patterns k)) places

-- the group has a place
abbrev pub has_group : List Pattern → List Place → ℕ → Bool
has_group patterns places g = list_any (λ k. group_at patterns k == g) places

-- a pattern `Any` of each group below this number
pub record AreGoals (count : ℕ) (goals : List Pattern) : Type 0 where
  pub many : length goals ≡ count
  pub goal : (k : ℕ) (d : Pattern) → k < length goals → ((slice_index_or goals k d).group ≡ k) × ((slice_index_or goals k d).signs ≡ Any ∷ [])

-- the group has a place where it stands once it has matched for good
pub record HasGoal (patterns : List Pattern) (g : ℕ) : Type 0 where
  pub within : g < length patterns
  pub own : group_at patterns (place_at g 0) ≡ g
  pub good : rest_at patterns (place_at g 0) ≡ Any ∷ []

abbrev pub IsTable : List Pattern → Type 0
IsTable patterns = (k : Place) → k.pattern < length patterns → HasGoal patterns (group_at patterns k)

-- some place of the group is left from which the text is matched
abbrev pub Leads : List Pattern → List Place → ℕ → List ℕ → Type 0
Leads patterns places g text = (k : Place) × Contains places k × (group_at patterns k ≡ g) × Matches (rest_at patterns k) text

-- the colon that the grammar waits for
abbrev pub waited_in : Part → List ℕ
waited_in Anywhere = []
waited_in Start = []
waited_in Service = 58 ∷ []
waited_in Colon = []
waited_in Name = []
