-- What is known of texts whoever asks, and in whatever context. LOGIC 2.4.
use Rattle.std.specs.Prelude.{◌↔◌, ℕ, All, Any, Bool, IsSome, IsTrue, List, MatchBool}
use Rattle.iam_text.specs.declared.draft.Piece.{Piece}
use Rattle.iam_context.specs.Context.{ContextValue}
use Rattle.iam_context.specs.Resolve.{resolved}
use Rattle.iam_match.specs.Statement.{TextMatches}

-- the text becomes a pattern, which matches the resource or not, as it is told
abbrev pub TellsOfText : ContextValue → List ℕ → List Piece → Bool → Type 0
TellsOfText context resource text matched = IsSome (resolved context text) × (IsTrue matched ↔ TextMatches context resource text)

-- some text becomes a pattern that matches the resource; or all become patterns, none of which does
abbrev pub TellsOfTexts : ContextValue → List ℕ → List (List Piece) → Bool → Type 0
TellsOfTexts context resource texts some =
    let some_matches = Any (TextMatches context resource) texts in
    MatchBool some some_matches (All (λ text. IsSome (resolved context text)) texts × ¬ some_matches)
