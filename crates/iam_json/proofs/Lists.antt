-- Lists as `serde_json` shows them, and how much they hold.
use Rattle.std.proofs.Common.{◌≡◌, ℕ, ◌<◌, Bool, ◌||◌, map, List, [], ◌∷◌, Some, length, refl, sym, ap, ◌∙◌, arith}
use Rattle.std.specs.List.{list_any, slice_get}
use Rattle.serde_json.specs.Data.{Data, null, boolean, number, string, array, object}
use Rattle.serde_json.specs.Find.{as_array}
use Rattle.serde_json.specs.View.{items_of}
use Rattle.iam_json.specs.Look.{list_of, values}
use Rattle.iam_json.specs.Size.{size}
use Rattle.iam_json.proofs.Sizes.{list_size, item_size}

-- a list and back
list_of_items_of : (ds : List Data) → list_of (items_of ds) ≡ ds
list_of_items_of [] = refl
list_of_items_of (d ∷ ds) = ap (λ rest. d ∷ rest) (list_of_items_of ds)

-- a test of each element of a mapped list
pub list_any_map : {X : Type 0} (p : X → Bool) → {Y : Type 0} (h : Y → X) (ys : List Y) → list_any p (map h ys) ≡ list_any (λ y. p (h y)) ys
list_any_map p h [] = refl
list_any_map p h (y ∷ ys) = ap (λ rest. p (h y) || rest) (list_any_map p h ys)

-- the values of a list
pub values_array : (d : Data) (vs : List Data) → Some (items_of vs) ≡ as_array d → Some vs ≡ values d
values_array null vs e = cc
values_array (boolean b) vs e = cc
values_array (number n) vs e = cc
values_array (string s) vs e = cc
values_array (array ds) vs e = let same : items_of vs ≡ ds = cc in ap Some (sym (list_of_items_of vs) ∙ ap list_of same)
values_array (object ms) vs e = cc

-- a list has fewer items than it holds values
pub list_smaller : (d : Data) (list : List Data) → values d ≡ Some list → length list < size d
list_smaller null list e = cc
list_smaller (boolean b) list e = cc
list_smaller (number n) list e = cc
list_smaller (string s) list e = cc
list_smaller (array ds) list e = let same : list_of ds ≡ list = cc in let counted : length (list_of ds) ≡ length list = ap length same in omega (arith, list_size ds)
list_smaller (object ms) list e = cc

-- an item holds fewer values than its list
pub item_smaller : (d value : Data) (list : List Data) (i : ℕ) → values d ≡ Some list → slice_get list i ≡ Some value → size value < size d
item_smaller null value list i e at = cc
item_smaller (boolean b) value list i e at = cc
item_smaller (number n) value list i e at = cc
item_smaller (string s) value list i e at = cc
item_smaller (array ds) value list i e at =
    let same : list_of ds ≡ list = cc in
    let there : slice_get (list_of ds) i ≡ Some value = ap (λ l. slice_get l i) same ∙ at in
    omega (arith, item_size ds i value there)
item_smaller (object ms) value list i e at = cc
