-- What the answer says (`Kinds`) of patterns and texts as they are passed. LOGIC 2.1 and 2.2.
use Rattle.std.specs.Prelude.{ℕ, Bool, true, false, List, [], map}
use Rattle.std.specs.Borrow.{Bor}
use Rattle.std.specs.Global.{Vec}
use Rattle.std.specs.Str.{chars}
use Rattle.std.specs.String.{string_bytes}
use Rattle.iam_glob.specs.Glob.{folded, sign_by}
use Rattle.iam_glob.specs.Signs.{signs_in}
use Rattle.iam_glob.specs.declared.sign.Sign.{Sign}
use Rattle.iam_glob.specs.declared.signs.Signs.{Signs}
use Rattle.iam_kinds.specs.Kinds.{Question, folded_question}
use Rattle.iam_kinds.specs.Shown.{AreKinds, AreKindsFold}
use Rattle.iam_kinds.specs.States.{PassesLimit, machine_of}
use Rattle.iam_kinds.specs.declared.grammar.Grammar.{Grammar}
use Rattle.iam_kinds.specs.declared.grammar.Grammar.TheVariants.{AnyText}
use Rattle.iam_kinds.specs.declared.kinds.Kinds.{Kinds}
use Rattle.iam_kinds.specs.declared.kinds.Kinds.TheVariants.{Shown, NotShown}
use Rattle.iam_kinds.specs.declared.table.Pattern.{Pattern}

-- signs and characters, folded where `fold` says so
abbrev pub signs_of : Bool → Signs → List Sign
signs_of false signs = signs_in signs
signs_of true signs = map (sign_by folded) (signs_in signs)

abbrev pub characters_in : Bool → List ℕ → List ℕ
characters_in false text = text
characters_in true text = map folded text

abbrev pub question_in : Bool → Grammar → List Signs → List (Vec Signs) → List (Bor (List ℕ)) → Question
question_in fold grammar within groups named = record {
  grammar = grammar;
  within = map (signs_of fold) within;
  groups = map (λ group. map (signs_of fold) group.items) groups;
  named = map (λ text. characters_in fold (chars text.now)) named;
}

-- their patterns, behind those where groups stand
abbrev pub patterns_in : Bool → List Signs → List (Vec Signs) → List Pattern
patterns_in fold within groups = (machine_of (question_in fold AnyText within groups [])).patterns

-- the texts that are shown are one of each kind, and no limit is passed; or one is
abbrev pub IsAnswer : Question → Kinds → Type 0
IsAnswer question (Shown texts) = AreKinds question (map (λ text. chars (string_bytes text)) texts.items) × ¬ PassesLimit question
IsAnswer question NotShown = PassesLimit question

-- the same without regard to case: what is counted are the states and kinds of folded patterns
abbrev pub IsAnswerFold : Question → Kinds → Type 0
IsAnswerFold question (Shown texts) =
    AreKindsFold question (map (λ text. chars (string_bytes text)) texts.items) × ¬ PassesLimit (folded_question question)
IsAnswerFold question NotShown = PassesLimit (folded_question question)

-- patterns with the numbers of their groups
abbrev pub pairs_of : List Pattern → List (ℕ × List Sign)
pairs_of patterns = map (λ p. (p.group, p.signs)) patterns
