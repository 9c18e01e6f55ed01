-- The kinds of texts that patterns tell apart: AWS IAM User Guide, "IAM JSON policy elements reference", the elements `Action` and
-- `Resource`, which read a text by patterns alone. A text is the list of its characters. LOGIC 2.1, 2.2 and 12.4.
use Rattle.std.specs.Prelude.{◌≡◌, ◌↔◌, ◌<◌, ◌⊎◌, [], ◌==◌, ◌||◌, ◌&&◌, ℕ, Bool, true, false, map, List, ◌∷◌, ◌++◌, ⊤, length, IsTrue, Contains}
use Rattle.std.specs.Char.{IsScalar, is_ascii_alphanumeric}
use Rattle.std.specs.List.{list_all}
use Rattle.iam_glob.specs.Glob.{Matches, MatchesFold, folded, sign_by}
use Rattle.iam_glob.specs.declared.sign.Sign.{Sign}
use Rattle.iam_kinds.specs.declared.grammar.Grammar.{Grammar}
use Rattle.iam_kinds.specs.declared.grammar.Grammar.TheVariants.{AnyText, Action, FoldedText, FoldedAction}

-- what is asked: the grammar of the texts, patterns that all have to match, groups of patterns, and texts that are left out
pub record Question : Type 0 where
  pub grammar : Grammar
  pub within : List (List Sign)
  pub groups : List (List (List Sign))
  pub named : List (List ℕ)

-- a character of an action before its colon: a letter, a digit or `-`
abbrev pub is_service_character : ℕ → Bool
is_service_character c = is_ascii_alphanumeric c || (c == 45)

-- a character behind it: also `_` and `.`
abbrev pub is_name_character : ℕ → Bool
is_name_character c = is_service_character c || ((c == 95) || (c == 46))

-- folding leaves the character
abbrev pub is_folded : ℕ → Bool
is_folded c = folded c == c

-- such characters, of which folding leaves each where `fold` says so
abbrev pub is_any_in : Bool → ℕ → Bool
is_any_in false c = true
is_any_in true c = is_folded c

abbrev pub is_service_in : Bool → ℕ → Bool
is_service_in false c = is_service_character c
is_service_in true c = is_service_character c && is_folded c

abbrev pub is_name_in : Bool → ℕ → Bool
is_name_in false c = is_name_character c
is_name_in true c = is_name_character c && is_folded c

-- an action: one or more characters, a colon, one or more characters
abbrev pub IsAction : Bool → List ℕ → Type 0
IsAction fold text =
    (service name : List ℕ) × (text ≡ service ++ (58 ∷ name)) × (0 < length service) × (0 < length name)
    × IsTrue (list_all (is_service_in fold) service) × IsTrue (list_all (is_name_in fold) name)

-- the grammar has the text
abbrev pub IsIn : Grammar → List ℕ → Type 0
IsIn AnyText text = ⊤
IsIn Action text = IsAction false text
IsIn FoldedText text = IsTrue (list_all is_folded text)
IsIn FoldedAction text = IsAction true text

-- the grammar of the texts that folding leaves
abbrev pub folded_grammar : Grammar → Grammar
folded_grammar AnyText = FoldedText
folded_grammar Action = FoldedAction
folded_grammar FoldedText = FoldedText
folded_grammar FoldedAction = FoldedAction

-- characters are Unicode scalar values
abbrev pub IsText : List ℕ → Type 0
IsText text = (c : ℕ) → Contains text c → IsScalar c

-- the text is one that is asked about
pub record IsMeant (question : Question) (text : List ℕ) : Type 0 where
  pub grammar : IsIn question.grammar text
  pub within : (pattern : List Sign) → Contains question.within pattern → Matches pattern text
  pub unnamed : ¬ Contains question.named text

-- a group matches a text where one of its patterns does
abbrev pub GroupMatches : List (List Sign) → List ℕ → Type 0
GroupMatches group text = (pattern : List Sign) × Contains group pattern × Matches pattern text

-- every group matches both texts or neither
abbrev pub Agree : Question → List ℕ → List ℕ → Type 0
Agree question one other =
    (group : List (List Sign)) → Contains question.groups group → GroupMatches group one ↔ GroupMatches group other

-- of two texts of one length, where they first differ the code point of the one is lower
abbrev pub IsLess : List ℕ → List ℕ → Type 0
IsLess [] other = ⊥
IsLess (c ∷ text) [] = ⊥
IsLess (c ∷ text) (d ∷ other) = (c < d) ⊎ ((c ≡ d) × IsLess text other)

-- the shorter text is before the longer, and of two of one length the less
abbrev pub IsBefore : List ℕ → List ℕ → Type 0
IsBefore one other = (length one < length other) ⊎ ((length one ≡ length other) × IsLess one other)

-- ---- without regard to case
pub record IsMeantFold (question : Question) (text : List ℕ) : Type 0 where
  pub grammar : IsIn question.grammar text
  pub within : (pattern : List Sign) → Contains question.within pattern → MatchesFold pattern text
  pub unnamed : ¬ Contains (map (λ name. map folded name) question.named) (map folded text)

abbrev pub GroupMatchesFold : List (List Sign) → List ℕ → Type 0
GroupMatchesFold group text = (pattern : List Sign) × Contains group pattern × MatchesFold pattern text

abbrev pub AgreeFold : Question → List ℕ → List ℕ → Type 0
AgreeFold question one other =
    (group : List (List Sign)) → Contains question.groups group → GroupMatchesFold group one ↔ GroupMatchesFold group other

-- the same question of patterns and texts that folding leaves
abbrev pub folded_question : Question → Question
folded_question question = record {
  grammar = folded_grammar question.grammar;
  within = map (map (sign_by folded)) question.within;
  groups = map (map (map (sign_by folded))) question.groups;
  named = map (map folded) question.named;
}
