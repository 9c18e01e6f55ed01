-- The signs of the stretches that are left.
use Rattle.std.proofs.Common.{◌≡◌, ℕ, Bool, List, [], ◌∷◌, ◌++◌, refl, sym, ap, ◌∙◌, append_assoc, Option, Some, None, option_map, map}
use Rattle.std.proofs.lemmas.List.{append-nil}
use Rattle.std.specs.Option.{option_and_then}
use Rattle.std.specs.Str.{chars}
use Rattle.iam_text.specs.declared.draft.Piece.{Piece}
use Rattle.iam_glob.specs.declared.sign.Sign.{Sign}
use Rattle.iam_glob.specs.Glob.{sign_of}
use Rattle.iam_text.specs.Draft.{plain_draft}
use Rattle.iam_context.specs.Context.{ContextValue}
use Rattle.iam_context.specs.Resolve.{resolved}

-- signs before signs
both : (before more : List Sign) (rest : Option (List Sign))
    → option_map (λ rest. before ++ rest) (option_map (λ rest. more ++ rest) rest) ≡ option_map (λ rest. (before ++ more) ++ rest) rest
both before more None = refl
both before more (Some rest) = ap (λ l. Some l) (sym (append_assoc before more rest))

pub none : (rest : Option (List Sign)) → rest ≡ option_map (λ rest. [] ++ rest) rest
none None = refl
none (Some rest) = refl

-- plain text before other pieces
plain : (context : ContextValue) (signs : List Sign) (pieces : List Piece)
    → resolved context (plain_draft signs ++ pieces) ≡ option_map (λ rest. signs ++ rest) (resolved context pieces)
plain context [] pieces = none (resolved context pieces)
plain context (sign ∷ signs) pieces =
    ap (option_map (λ rest. (sign ∷ []) ++ rest)) (plain context signs pieces) ∙ both (sign ∷ []) signs (resolved context pieces)

over : (context : ContextValue) (before signs : List Sign) (pieces rest : List Piece) → pieces ≡ plain_draft signs ++ rest
    → option_map (λ rest. before ++ rest) (resolved context pieces) ≡ option_map (λ rest. (before ++ signs) ++ rest) (resolved context rest)
over context before signs pieces rest is =
    ap (λ ps. option_map (λ rest. before ++ rest) (resolved context ps)) is
    ∙ ap (option_map (λ rest. before ++ rest)) (plain context signs rest)
    ∙ both before signs (resolved context rest)

-- over plain text
pub over_plain : (context : ContextValue) (before grown : List Sign) (wild read : Bool) (text : List ℕ) (pieces rest : List Piece)
    → pieces ≡ plain_draft (map (sign_of wild) (chars text)) ++ rest → read ≡ wild → grown ≡ before ++ map (sign_of read) (chars text)
    → option_map (λ rest. before ++ rest) (resolved context pieces) ≡ option_map (λ rest. grown ++ rest) (resolved context rest)
over_plain context before grown wild read text pieces rest is same added =
    over context before (map (sign_of wild) (chars text)) pieces rest is
    ∙ ap (λ w. option_map (λ rest. (before ++ map (sign_of w) (chars text)) ++ rest) (resolved context rest)) (sym same)
    ∙ ap (λ (ss : List Sign). option_map (λ rest. ss ++ rest) (resolved context rest)) (sym added)

-- over plain text that is all
pub over_all : (context : ContextValue) (before grown : List Sign) (wild read : Bool) (text : List ℕ) (pieces : List Piece)
    → pieces ≡ plain_draft (map (sign_of wild) (chars text)) → read ≡ wild → grown ≡ before ++ map (sign_of read) (chars text)
    → option_map (λ rest. before ++ rest) (resolved context pieces) ≡ Some grown
over_all context before grown wild read text pieces is same added =
    over_plain context before grown wild read text pieces [] (is ∙ sym (append-nil (plain_draft (map (sign_of wild) (chars text))))) same added
    ∙ ap (λ l. Some l) (append-nil grown)

-- over a piece that has a value
pub over_piece : (before now : List Sign) (found : Option (List Sign)) (rest : Option (List Sign))
    → option_map (λ more. before ++ more) found ≡ Some now
    → option_map (λ rest. before ++ rest) (option_and_then (λ signs. option_map (λ rest. signs ++ rest) rest) found)
    ≡ option_map (λ rest. now ++ rest) rest
over_piece before now None rest is = cc
over_piece before now (Some signs) None is = refl
over_piece before now (Some signs) (Some more) is =
    let e : before ++ signs ≡ now = cc in ap (λ l. Some l) (sym (append_assoc before signs more) ∙ ap (λ l. l ++ more) e)

-- a piece without one
pub no_value : (before : List Sign) (found : Option (List Sign)) (rest : Option (List Sign)) → option_map (λ more. before ++ more) found ≡ None
    → option_map (λ rest. before ++ rest) (option_and_then (λ signs. option_map (λ rest. signs ++ rest) rest) found) ≡ None
no_value before None rest is = refl
no_value before (Some signs) rest is = cc
