-- Answers that are kept for questions that come again. LOGIC 2.2.
use Rattle.std.specs.Prelude.{◌≡◌, ℕ, List, Some, false, length, map}
use Rattle.std.specs.Global.{Vec}
use Rattle.std.specs.List.{slice_get}
use Rattle.iam_glob.specs.declared.signs.Signs.{Signs}
use Rattle.iam_kinds.specs.Answers.{IsAnswer, signs_of}
use Rattle.iam_kinds.specs.Kinds.{Question}
use Rattle.iam_kinds.specs.States.{machine_of}
use Rattle.iam_kinds.specs.declared.grammar.Grammar.TheVariants.{AnyText}
use Rattle.iam_kinds.specs.declared.kinds.Kinds.{Kinds}
use Rattle.iam_kinds.specs.declared.table.Pattern.{Pattern}
use Rattle.iam_kinds.specs.declared.walks.Found.{Found}
use Rattle.iam_kinds.specs.declared.walks.Walks.{Walks}

-- of texts of any form the question of these patterns and groups, beside these named texts
abbrev pub question_with : List Signs → List (Vec Signs) → List (List ℕ) → Question
question_with within groups named = record {
  grammar = AnyText;
  within = map (signs_of false) within;
  groups = map (λ group. map (signs_of false) group.items) groups;
  named = named;
}

-- the question is of texts of any form beside these, by these patterns, so many that have to match and so many groups
pub record IsAskedOf (question : Question) (named : List (List ℕ)) (patterns : List Pattern) (within groups : ℕ) : Type 0 where
  pub grammar : question.grammar ≡ AnyText
  pub named_are : question.named ≡ named
  pub patterns_are : patterns ≡ (machine_of question).patterns
  pub within_are : within ≡ length question.within
  pub groups_are : groups ≡ length question.groups

-- the texts that are named
abbrev pub names_of : Walks → List (List ℕ)
names_of walks = map (λ text. text.items) walks.named.items

-- the kinds answer each question of these patterns
abbrev pub AnswersAll : List (List ℕ) → List Pattern → ℕ → ℕ → Kinds → Type 0
AnswersAll named patterns within groups kinds =
    (question : Question) → IsAskedOf question named patterns within groups → IsAnswer question kinds

-- what is kept answers each question of its patterns
abbrev pub IsFound : List (List ℕ) → Found → Type 0
IsFound named found = AnswersAll named found.table.patterns.items found.within found.groups found.kinds

-- so it is in each slot
pub record AreFound (walks : Walks) : Type 0 where
  pub slots : length walks.slots.items ≡ 1024
  pub found : (i : ℕ) (found : Found) → slice_get walks.slots.items i ≡ Some (Some found) → IsFound (names_of walks) found
