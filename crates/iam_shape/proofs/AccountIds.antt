-- The ids of the accounts that were walked.
use Rattle.std.proofs.Common.{◌≡◌, ℕ, List, [], ◌∷◌, length, map, take, refl, sym, ap, ◌∙◌}
use Rattle.std.specs.List.{AllZip, filter_map, cons_option}
use Rattle.std.proofs.lemmas.List.{length-map, take-map}
use Rattle.serde_json.specs.Data.{Data}
use Rattle.iam_shape.specs.Shape.{text_at}
use Rattle.iam_shape.specs.View.{AccountViewValue, IsAccountView}
use Rattle.iam_shape.specs.declared.path.Name.TheVariants.{Id}

-- accounts that say these things have these ids
said_ids : (ds : List Data) (accounts : List AccountViewValue) → AllZip IsAccountView ds accounts → filter_map (text_at Id) ds ≡ map (λ account. account.id) accounts
said_ids [] [] said = refl
said_ids [] (a ∷ as') said = absurd said
said_ids (d ∷ ds) [] said = absurd said
said_ids (d ∷ ds) (a ∷ as') said =
    ap (λ o. cons_option o (filter_map (text_at Id) ds)) said.0.id ∙ ap (λ ids. a.id ∷ ids) (said_ids ds as' said.1)

-- the ids of the accounts before i
pub earlier_ids : {V : Type 0} (view : V → Data) (vs : List V) (i : ℕ) (accounts : List AccountViewValue) → AllZip IsAccountView (map view (take i vs)) accounts
    → map (λ account. account.id) accounts ≡ filter_map (text_at Id) (take i (map view vs))
earlier_ids view vs i accounts said = sym (said_ids (map view (take i vs)) accounts said) ∙ ap (filter_map (text_at Id)) (sym (take-map view i vs))

-- as many ids as accounts
pub id_count : {Y : Type 0} (account_of : Y → AccountViewValue) (ys : List Y) → length (map (λ (account : AccountViewValue). account.id) (map account_of ys)) ≡ length ys
id_count account_of ys = length-map (map account_of ys) (λ (account : AccountViewValue). account.id) ∙ length-map ys account_of
