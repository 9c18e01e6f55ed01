-- Levels of which no check fails are lists.
use Rattle.std.proofs.Common.{◌≡◌, ℕ, ◌+◌, List, [], ◌∷◌, map, cond, Option, Some, None, is_some, unwrap_or, refl, sym, ap, ◌∙◌}
use Rattle.std.specs.List.{AllZip}
use Rattle.serde_json.specs.Data.{Data}
use Rattle.iam_json.specs.Look.{values}
use Rattle.iam_shape.specs.Lent.{policies_in}
use Rattle.iam_shape.specs.Shape.{each, first_bad}
use Rattle.iam_shape.specs.Code.Walk.{IsLevel, level_checks}
use Rattle.iam_shape.specs.declared.path.Name.{Name}
use Rattle.iam_shape.specs.declared.path.Path.TheVariants.{Entry}

pub all_levels : {V : Type 0} (f : V → Data) (list : Name) (i : ℕ) (name : Name) (j : ℕ) (vs : List V) → first_bad (each (level_checks list i name) j (map f vs)) ≡ None
    → AllZip IsLevel (map f vs) (map (λ v. policies_in (f v)) vs)
all_levels f list i name j [] clear = tt
all_levels f list i name j (v ∷ vs) clear = go (values (f v)) refl clear (all_levels f list i name (j + 1) vs)
  where
    go : (o : Option (List Data)) → values (f v) ≡ o
        → cond (is_some o) (first_bad (each (level_checks list i name) (j + 1) (map f vs))) (Some (Entry list i name j)) ≡ None
        → (first_bad (each (level_checks list i name) (j + 1) (map f vs)) ≡ None → AllZip IsLevel (map f vs) (map (λ w. policies_in (f w)) vs))
        → AllZip IsLevel (map f (v ∷ vs)) (map (λ w. policies_in (f w)) (v ∷ vs))
    go None is e rest = cc
    go (Some ds) is e rest = (is ∙ sym (ap (λ o. Some (unwrap_or o [])) is), rest e)
