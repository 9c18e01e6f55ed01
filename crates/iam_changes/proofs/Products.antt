-- How many requests of a world another one has: a product, since it has those of which it has each text.
use Rattle.std.proofs.Common.{◌≡◌, ℕ, zero, suc, ◌+◌, ◌*◌, ◌<◌, ◌≤◌, Bool, List, [], ◌∷◌, Option, Some, None, length, refl, sym, ap, subst, arith}
use Rattle.std.specs.List.{AllZip, filter, slice_get}
use Rattle.std.specs.Option.{is_some}
use Rattle.std.proofs.lemmas.Nat.{mul-le}
use Rattle.std.proofs.lemmas.Option.{get_or_from_slice_get, slice_get_within}
use Rattle.std.proofs.lemmas.Slice.Zip.{AllZip-long}
use Rattle.iam_layers.specs.Cell.{IsCell}
use Rattle.iam_layers.specs.Laws.{OneTriple}
use Rattle.iam_world.specs.World.{WorldValue, world_cells}
use Rattle.iam_row.specs.Report.{CellTexts, IsCellTexts}
use Rattle.iam_changes.specs.Code.Found.{AreFoundIn, IsLeftCount, IsNumberIn}
use Rattle.iam_changes.specs.Requests.{Has}
use Rattle.iam_changes.specs.Twice.{axis_texts}
use Rattle.iam_changes.specs.declared.twice.Axis.TheVariants.{Principals, Actions, Resources}
use Rattle.iam_changes.proofs.Counts.{LeftTo, cell_texts, left_count, left_more, left_none}
use Rattle.iam_changes.proofs.Places.{count_principals, count_resources, has_action, has_found, has_principal, has_resource, principal_there, resource_there, texts_found, texts_there, zipped_at}

-- ---- numbers that are there

abbrev pub count_some : List (Option ℕ) → ℕ
count_some numbers = length (filter is_some numbers)

abbrev ones : Option ℕ → ℕ
ones None = 0
ones (Some n) = 1

some_parts : (x : Option ℕ) (xs : List (Option ℕ)) → count_some (x ∷ xs) ≡ ones x + count_some xs
some_parts None xs = omega arith
some_parts (Some n) xs = omega arith

few_some : (xs : List (Option ℕ)) → count_some xs ≤ length xs
few_some [] = omega arith
few_some (None ∷ xs) = let few = few_some xs in omega (arith, few)
few_some (Some n ∷ xs) = let few = few_some xs in omega (arith, few)

-- ---- cells of a world, and how many of their requests the other world has

-- so many more cells, of which it has so many
record Walked (world other : WorldValue) (from count size had : ℕ) : Type 0 where
  more : ℕ
  left : LeftTo world other (from + size) more
  sum : more + had ≡ count + size

-- the same, where these numbers are equal
walked_as : (world other : WorldValue) (from from' count size size' had had' : ℕ) → from ≡ from' → size ≡ size' → had ≡ had'
    → (LeftTo world other from count → Walked world other from count size had) → LeftTo world other from' count → Walked world other from' count size' had'
walked_as world other from from' count size size' had had' start long same walk left =
    let w = walk (subst (λ k. LeftTo world other k count) (sym start) left) in
    let end : from + size ≡ from' + size' = omega (arith, start, long) in
    record { more = w.more; left = subst (λ k. LeftTo world other k w.more) end w.left; sum = (let all = w.sum in omega (arith, all, long, same)) }

-- equal steps, one for each of some numbers; of each that is there the other world has as many
walked : (world other : WorldValue) (size weight from count : ℕ) (numbers : List (Option ℕ))
    → ((i : ℕ) (x : Option ℕ) (so_far : ℕ) → slice_get numbers i ≡ Some x → LeftTo world other (from + i * size) so_far → Walked world other (from + i * size) so_far size (weight * ones x))
    → LeftTo world other from count → Walked world other from count (length numbers * size) (weight * count_some numbers)
walked world other size weight from count [] step left =
    let end : from ≡ from + 0 * size = omega arith in
    record { more = count; left = subst (λ k. LeftTo world other k count) end left; sum = omega arith }
walked world other size weight from count (x ∷ numbers) step left =
    let first = walked_as world other (from + 0 * size) from count size size (weight * ones x) (weight * ones x) (omega arith) refl refl (step 0 x count refl) left in
    let rest = walked world other size weight (from + size) first.more numbers
    (λ i y so_far at. walked_as world other (from + suc i * size) (from + size + i * size) so_far size size (weight * ones y) (weight * ones y) (omega arith) refl refl (step (suc i) y so_far at))
    first.left in
    let long : length (x ∷ numbers) * size ≡ size + length numbers * size = omega arith in
    let parts : weight * count_some (x ∷ numbers) ≡ weight * (ones x + count_some numbers) = ap (λ n. weight * n) (some_parts x numbers) in
    let end : from + size + length numbers * size ≡ from + length (x ∷ numbers) * size = omega (arith, long) in
    record {
      more = rest.more;
      left = subst (λ k. LeftTo world other k rest.more) end rest.left;
      sum = (let one = first.sum in let others = rest.sum in omega (arith, one, others, long, parts));
    }

-- ---- one cell, by the numbers of its texts in the other world

absent_left : (world other : WorldValue) (cell count had : ℕ) (texts : CellTexts) → IsCellTexts world cell texts → ¬ Has other texts → had ≡ 0 → LeftTo world other cell count
    → Walked world other cell count 1 had
absent_left world other cell count had texts of absent none left =
    record { more = count + 1; left = left_more world other cell count (count + 1) (Some texts) (texts, of, (refl, absent)) refl left; sum = omega (arith, none) }

one_left : (world other : WorldValue) (cell count : ℕ) (texts : CellTexts) (x y z : Option ℕ) → IsCellTexts world cell texts
    → IsNumberIn (axis_texts Principals other) texts.principal x → IsNumberIn (axis_texts Actions other) texts.action y
    → IsNumberIn (axis_texts Resources other) texts.resource z → LeftTo world other cell count → Walked world other cell count 1 (ones x * ones y * ones z)
one_left world other cell count texts None y z of principal action resource left =
    absent_left world other cell count (0 * ones y * ones z) texts of (λ has. principal (has_principal other texts has)) (omega arith) left
one_left world other cell count texts (Some p) None z of principal action resource left =
    absent_left world other cell count (1 * 0 * ones z) texts of (λ has. action (has_action other texts has)) (omega arith) left
one_left world other cell count texts (Some p) (Some a) None of principal action resource left =
    absent_left world other cell count (1 * 1 * 0) texts of (λ has. resource (has_resource other texts has)) (omega arith) left
one_left world other cell count texts (Some p) (Some a) (Some r) of principal action resource left =
    let had = has_found other p a r texts (texts_found other p a r texts principal action resource) in
    record { more = count; left = left_more world other cell count count None (texts, of, had) (omega arith) left; sum = omega arith }

-- ---- all cells

number_at : (others texts : List (List ℕ)) (numbers : List (Option ℕ)) (i : ℕ) (text : List ℕ) (number : Option ℕ) → AllZip (IsNumberIn others) texts numbers
    → slice_get texts i ≡ Some text → slice_get numbers i ≡ Some number → IsNumberIn others text number
number_at others texts numbers i text number all at is =
    zipped_at (IsNumberIn others) texts numbers i text number all at (sym (get_or_from_slice_get numbers i number number is))

-- the numbers in the other world of principals, of actions and of resources
record Sought (world other : WorldValue) (ps qs rs : List (Option ℕ)) : Type 0 where
  triples : OneTriple
  of_principals : AllZip (IsNumberIn (axis_texts Principals other)) (axis_texts Principals world) ps
  of_actions : AllZip (IsNumberIn (axis_texts Actions other)) (axis_texts Actions world) qs
  of_resources : AllZip (IsNumberIn (axis_texts Resources other)) (axis_texts Resources world) rs
  all_principals : length ps ≡ length world.principals
  all_actions : length qs ≡ length world.actions
  all_resources : length rs ≡ length world.resources

cell_left : (world other : WorldValue) (ps qs rs : List (Option ℕ)) → Sought world other ps qs rs → (p a r count : ℕ) (x y z : Option ℕ)
    → slice_get ps p ≡ Some x → slice_get qs a ≡ Some y → slice_get rs r ≡ Some z
    → LeftTo world other ((p * length world.actions + a) * length world.resources + r) count
    → Walked world other ((p * length world.actions + a) * length world.resources + r) count 1 (ones x * ones y * ones z)
cell_left world other ps qs rs sought p a r count x y z p_at a_at r_at left =
    let cell = (p * length world.actions + a) * length world.resources + r in
    let is : IsCell world cell p a r = record {
      principal = omega (arith, slice_get_within ps p x p_at, sought.all_principals);
      action = omega (arith, slice_get_within qs a y a_at, sought.all_actions);
      resource = omega (arith, slice_get_within rs r z r_at, sought.all_resources);
      number = refl;
    } in
    let (texts, of) = cell_texts world cell p a r is in
    let has = texts_there sought.triples world cell p a r texts is of in
    one_left world other cell count texts x y z of
    (number_at (axis_texts Principals other) (axis_texts Principals world) ps p texts.principal x sought.of_principals (principal_there world p a r texts has) p_at)
    (number_at (axis_texts Actions other) (axis_texts Actions world) qs a texts.action y sought.of_actions has.action a_at)
    (number_at (axis_texts Resources other) (axis_texts Resources world) rs r texts.resource z sought.of_resources (resource_there world p a r texts has) r_at) left

-- those of a principal and an action
row_left : (world other : WorldValue) (ps qs rs : List (Option ℕ)) → Sought world other ps qs rs → (p a count : ℕ) (x y : Option ℕ)
    → slice_get ps p ≡ Some x → slice_get qs a ≡ Some y → LeftTo world other ((p * length world.actions + a) * length world.resources) count
    → Walked world other ((p * length world.actions + a) * length world.resources) count (length rs * 1) (ones x * ones y * count_some rs)
row_left world other ps qs rs sought p a count x y p_at a_at =
    let from = (p * length world.actions + a) * length world.resources in
    walked world other 1 (ones x * ones y) from count rs
    (λ r z so_far r_at. walked_as world other (from + r) (from + r * 1) so_far 1 1 (ones x * ones y * ones z) (ones x * ones y * ones z) (omega arith) refl refl
    (cell_left world other ps qs rs sought p a r so_far x y z p_at a_at r_at))

-- those of a principal
rows_left : (world other : WorldValue) (ps qs rs : List (Option ℕ)) → Sought world other ps qs rs → (p count : ℕ) (x : Option ℕ) → slice_get ps p ≡ Some x
    → LeftTo world other (p * length world.actions * length world.resources) count
    → Walked world other (p * length world.actions * length world.resources) count (length qs * length world.resources) (ones x * count_some rs * count_some qs)
rows_left world other ps qs rs sought p count x p_at =
    let A = length world.actions in
    let R = length world.resources in
    let K = count_some rs in
    let long : length rs * 1 ≡ R = (let all = sought.all_resources in omega (arith, all)) in
    walked world other R (ones x * K) (p * A * R) count qs
    (λ a y so_far a_at. walked_as world other ((p * A + a) * R) (p * A * R + a * R) so_far (length rs * 1) R (ones x * ones y * K) (ones x * K * ones y) (omega arith) long (omega arith)
    (row_left world other ps qs rs sought p a so_far x y p_at a_at))

all_left : (world other : WorldValue) (ps qs rs : List (Option ℕ)) → Sought world other ps qs rs
    → Walked world other 0 0 (world_cells world) (count_some ps * count_some qs * count_some rs)
all_left world other ps qs rs sought =
    let A = length world.actions in
    let R = length world.resources in
    let J = count_some qs in
    let K = count_some rs in
    let row : length qs * R ≡ A * R = ap (λ n. n * R) sought.all_actions in
    let all : length ps * (A * R) ≡ length world.principals * (A * R) = ap (λ n. n * (A * R)) sought.all_principals in
    let cells : length ps * (A * R) ≡ world_cells world = omega (arith, all) in
    walked_as world other 0 0 0 (length ps * (A * R)) (world_cells world) (K * J * count_some ps) (count_some ps * J * K) refl cells (omega arith)
    (walked world other (A * R) (K * J) 0 0 ps
    (λ p x so_far p_at. walked_as world other (p * A * R) (0 + p * (A * R)) so_far (length qs * R) (A * R) (ones x * K * J) (K * J * ones x) (omega arith) row (omega arith)
    (rows_left world other ps qs rs sought p so_far x p_at)))
    (left_none world other)

-- ---- by the product

sought_of : OneTriple → (world other : WorldValue) (ps qs rs : List (Option ℕ)) (has_resources has_all : Bool) → AreFoundIn world other ps qs rs has_resources has_all → Sought world other ps qs rs
sought_of triples world other ps qs rs has_resources has_all found = record {
  triples = triples;
  of_principals = found.of_principals;
  of_actions = found.of_actions;
  of_resources = found.of_resources;
  all_principals = count_principals world (IsNumberIn (axis_texts Principals other)) ps found.of_principals;
  all_actions = AllZip-long (IsNumberIn (axis_texts Actions other)) (axis_texts Actions world) qs found.of_actions;
  all_resources = count_resources world (IsNumberIn (axis_texts Resources other)) rs found.of_resources;
}

some_resource : (pairs R : ℕ) → 0 < pairs * R → pairs ≤ pairs * R
some_resource pairs zero some = omega (arith, some)
some_resource pairs (suc R) some = omega arith

-- a world with cells has no more pairs of which the other one has both texts than cells
pub pairs_fit : OneTriple → (world other : WorldValue) (ps qs rs : List (Option ℕ)) (has_resources has_all : Bool) → AreFoundIn world other ps qs rs has_resources has_all
    → 0 < world_cells world → count_some ps * count_some qs ≤ world_cells world
pairs_fit triples world other ps qs rs has_resources has_all found some =
    let sought = sought_of triples world other ps qs rs has_resources has_all found in
    let principals : count_some ps ≤ length world.principals = omega (arith, few_some ps, sought.all_principals) in
    let actions : count_some qs ≤ length world.actions = omega (arith, few_some qs, sought.all_actions) in
    let pairs = mul-le (count_some ps) (count_some qs) (length world.principals) (length world.actions) principals actions in
    let cells = some_resource (length world.principals * length world.actions) (length world.resources) some in
    omega (arith, pairs, cells)

pub product_fits : OneTriple → (world other : WorldValue) (ps qs rs : List (Option ℕ)) (has_resources has_all : Bool) → AreFoundIn world other ps qs rs has_resources has_all
    → count_some ps * count_some qs * count_some rs ≤ world_cells world
product_fits triples world other ps qs rs has_resources has_all found =
    let w = all_left world other ps qs rs (sought_of triples world other ps qs rs has_resources has_all found) in
    let all = w.sum in omega (arith, all)

pub left_beside : OneTriple → (world other : WorldValue) (ps qs rs : List (Option ℕ)) (has_resources has_all : Bool) (left : ℕ) → AreFoundIn world other ps qs rs has_resources has_all
    → left + count_some ps * count_some qs * count_some rs ≡ world_cells world → IsLeftCount world other left
left_beside triples world other ps qs rs has_resources has_all left found total =
    let w = all_left world other ps qs rs (sought_of triples world other ps qs rs has_resources has_all found) in
    let same : w.more ≡ left = (let all = w.sum in omega (arith, all, total)) in
    let cells : 0 + world_cells world ≡ world_cells world = omega arith in
    left_count world other left (subst (λ n. LeftTo world other (world_cells world) n) same (subst (λ k. LeftTo world other k w.more) cells w.left))
