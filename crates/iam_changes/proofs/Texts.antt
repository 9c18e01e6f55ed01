-- Lists of texts, and the pieces of a world's.
use Rattle.std.proofs.Common.{◌≡◌, ℕ, ◌+◌, get_or, take, List, [], ◌∷◌, ◌++◌, map, Some, sym, ap, ◌∙◌}
use Rattle.std.specs.List.{slice_get}
use Rattle.std.specs.Option.{option_map}
use Rattle.std.proofs.lemmas.Option.{get_or_from_slice_get, slice_get-map, slice_get_within}
use Rattle.std.proofs.lemmas.List.{map_more}
use Rattle.iam_layers.specs.Cell.{principal_text}
use Rattle.iam_world.specs.World.{PrincipalValue, ResourceValue, WorldValue}
use Rattle.iam_row.specs.Code.ChangeParts.{change_action, change_pieces}
use Rattle.iam_row.specs.Piece.{pieces_at, principal_piece, resource_piece}
use Rattle.iam_row.specs.Report.{CellTexts, HasTexts}
use Rattle.iam_row.specs.declared.position.Position.{Position}
use Rattle.iam_row.specs.declared.quoted.Quoted.{Quoted}
use Rattle.iam_row.proofs.Texts.{same_three}
use Rattle.iam_changes.specs.Code.Pieces.{ArePiecesOf}

-- one more image, as at a step of a loop
pub one_more : {A : Type 0} (f : A → List ℕ) (xs : List A) (texts : List (List ℕ)) (i : ℕ) (x : A) (text : List ℕ) → texts ≡ map f (take i xs) → slice_get xs i ≡ Some x → text ≡ f x
    → texts ++ text ∷ [] ≡ map f (take (i + 1) xs)
one_more f xs texts i x text all at same =
    let inside = slice_get_within xs i x at in
    ap (λ l. l ++ text ∷ []) all ∙ ap (λ t. map f (take i xs) ++ t ∷ []) (same ∙ ap f (sym (get_or_from_slice_get xs i x x at))) ∙ sym (map_more f xs i x inside)

-- an element of a list of images is the image of the element there
mapped : {A : Type 0} (f : A → List ℕ) (xs : List A) (ys : List (List ℕ)) (i : ℕ) (x : A) → ys ≡ map f xs → slice_get xs i ≡ Some x → get_or ys i [] ≡ f x
mapped f xs ys i x all there =
    ap (λ l. get_or l i []) all ∙ get_or_from_slice_get (map f xs) i (f x) [] (slice_get-map f xs i ∙ ap (option_map f) there)

-- what stands at a position is of the texts of its principal, action and resource
pub pieces_there : (world : WorldValue) (quoted : Quoted) (at : Position) (texts : CellTexts) → ArePiecesOf world quoted
    → HasTexts world at.principal at.action at.resource texts → pieces_at quoted at ≡ change_pieces quoted.format texts
pieces_there world quoted at texts same has =
    same_three _ _ _ _ _ _
    (mapped (λ (x : PrincipalValue). principal_piece quoted.format (principal_text x)) world.principals quoted.principals at.principal has.principal.0 same.principals has.principal.1
    ∙ ap (principal_piece quoted.format) (sym has.principal.2))
    (mapped (change_action quoted.format) world.actions quoted.actions at.action texts.action same.actions has.action)
    (mapped (λ (x : ResourceValue). resource_piece quoted.format x.arn) world.resources quoted.resources at.resource has.resource.0 same.resources has.resource.1
    ∙ ap (resource_piece quoted.format) (sym has.resource.2))
