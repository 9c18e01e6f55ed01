-- From a question to what is asked.
use Rattle.std.proofs.Common.{◌≡◌, ◌↔◌, ℕ, zero, suc, ◌<◌, ◌+◌, List, [], ◌∷◌, ◌++◌, length, map, get_or, refl, sym, ap, ◌∙◌, subst, arith}
use Rattle.std.specs.List.{range_with_len}
use Rattle.iam_glob.specs.declared.sign.Sign.{Sign}
use Rattle.iam_kinds.specs.Answers.{pairs_of}
use Rattle.iam_kinds.specs.Code.{AreGoals}
use Rattle.iam_kinds.specs.Kinds.{Question}
use Rattle.iam_kinds.specs.Shown.{AreKinds}
use Rattle.iam_kinds.specs.States.{Machine, PassesLimit, goal_of, group_count, numbered_groups, numbered_within, pattern_of}
use Rattle.iam_kinds.specs.Walk.{AreLeast, AreTexts, Asks, IsOver, IsReady, machine_at, query_of}
use Rattle.iam_kinds.specs.declared.asked.Asked.{Asked}
use Rattle.iam_kinds.specs.declared.table.Pattern.{Pattern}
use Rattle.iam_kinds.proofs.AnswerLemmas.{IsQuestion, are_kinds, is_question, is_ready, passes}

pub goals_length : (first n : ℕ) → length (map goal_of (range_with_len first n)) ≡ n
goals_length first zero = refl
goals_length first (suc n) = ap suc (goals_length (first + 1) n)

pub goal_here : (first n k : ℕ) (d : Pattern) → k < n → get_or (map goal_of (range_with_len first n)) k d ≡ goal_of (first + k)
goal_here first zero k d below = absurd (omega (arith, below))
goal_here first (suc n) zero d below = ap goal_of (omega arith)
goal_here first (suc n) (suc k) d below = goal_here (first + 1) n k d (omega (arith, below)) ∙ ap goal_of (omega arith)

pub goals_are : (n : ℕ) → AreGoals n (map goal_of (range_with_len 0 n))
goals_are n = record {
  many = goals_length 0 n;
  goal = λ k d below.
      let e = goal_here 0 n k d (omega (arith, below, goals_length 0 n)) in
      let at : 0 + k ≡ k = omega arith in
      (ap (λ (p : Pattern). p.group) e ∙ at, ap (λ (p : Pattern). p.signs) e);
}

pub pairs_back : (pairs : List (ℕ × List Sign)) → pairs_of (map pattern_of pairs) ≡ pairs
pairs_back [] = refl
pairs_back (pair ∷ pairs) = ap (λ l. pair ∷ l) (pairs_back pairs)

abbrev pub listed : Question → List (ℕ × List Sign)
listed question = numbered_within 0 question.within ++ numbered_groups (length question.within) question.groups

pub asks_ready : (asked : Asked) (question : Question) → Asks asked question → IsReady asked
asks_ready asked question asks =
    let count : asked.count ≡ group_count question = ap (λ (m : Machine). m.count) asks.machine in
    let goals = map goal_of (range_with_len 0 (group_count question)) in
    is_ready asked goals (map pattern_of (listed question)) question.within question.groups (ap (λ (m : Machine). m.patterns) asks.machine)
    (subst (λ n. AreGoals n goals) (sym count) (goals_are (group_count question))) (pairs_back (listed question)) count asks.within

pub asks_question : (asked : Asked) (question : Question) → Asks asked question → IsQuestion question (query_of asked)
asks_question asked question asks =
    let count : asked.count ≡ group_count question = ap (λ (m : Machine). m.count) asks.machine in
    let goals = map goal_of (range_with_len 0 (group_count question)) in
    is_question question asked.table.now.patterns.items goals (map pattern_of (listed question)) asked.count asked.within asked.grammar
    (query_of asked).named
    (ap (λ (m : Machine). m.patterns) asks.machine) (subst (λ n. AreGoals n goals) (sym count) (goals_are (group_count question)))
    (pairs_back (listed question)) asks.within (ap (λ (m : Machine). m.grammar) asks.machine) asks.named

-- what a walk found is what the question asks for
pub found_kinds : (asked : Asked) (question : Question) (texts : List (List ℕ)) → Asks asked question → AreTexts (query_of asked) texts
    → AreLeast (machine_at asked) (query_of asked) texts → AreKinds question texts
found_kinds asked question texts asks are least =
    are_kinds question (query_of asked) (machine_at asked) texts (asks_question asked question asks) asks.machine are least

pub found_past : (asked : Asked) (question : Question) → Asks asked question → IsOver asked ↔ PassesLimit question
found_past asked question asks = passes question (query_of asked) (machine_at asked) (asks_question asked question asks) asks.machine
