-- The texts that are shown: one of each kind, and of which spelling. LOGIC 2.2.
use Rattle.std.specs.Prelude.{◌≤◌, ℕ, List, length, map, AllPairs, Contains}
use Rattle.iam_glob.specs.Glob.{folded}
use Rattle.iam_kinds.specs.Kinds.{Agree, AgreeFold, IsBefore, IsMeant, IsMeantFold, IsText, Question, folded_question}
use Rattle.iam_kinds.specs.Spelled.{IsCased, IsSpelled}

-- one text of each kind, in order: each is asked about, each text that is asked about agrees with one of them, no two agree, and none
-- that agrees with one of them is shorter; each is spelled by the letters of the walk, and is the first of all that agree with it and
-- are so spelled
pub record AreKinds (question : Question) (texts : List (List ℕ)) : Type 0 where
  pub characters : (text : List ℕ) → Contains texts text → IsText text
  pub meant : (text : List ℕ) → Contains texts text → IsMeant question text
  pub whole : (text : List ℕ) → IsText text → IsMeant question text → (shown : List ℕ) × Contains texts shown × Agree question shown text
  pub apart : AllPairs (λ one other. ¬ Agree question one other) texts
  pub shortest : (shown text : List ℕ) → Contains texts shown → IsText text → IsMeant question text → Agree question shown text
      → length shown ≤ length text
  pub order : AllPairs IsBefore texts
  pub spelled : (text : List ℕ) → Contains texts text → IsSpelled question text
  pub least : (shown text : List ℕ) → Contains texts shown → IsText text → IsMeant question text → IsSpelled question text
      → Agree question shown text → ¬ IsBefore text shown

-- the same without regard to case: the letters of the folded patterns spell the texts as folding leaves them, by which they are least
-- and in order, and each character is in the case of the first pattern that waits for it
pub record AreKindsFold (question : Question) (texts : List (List ℕ)) : Type 0 where
  pub characters : (text : List ℕ) → Contains texts text → IsText text
  pub meant : (text : List ℕ) → Contains texts text → IsMeantFold question text
  pub whole : (text : List ℕ) → IsText text → IsMeantFold question text
      → (shown : List ℕ) × Contains texts shown × AgreeFold question shown text
  pub apart : AllPairs (λ one other. ¬ AgreeFold question one other) texts
  pub shortest : (shown text : List ℕ) → Contains texts shown → IsText text → IsMeantFold question text → AgreeFold question shown text
      → length shown ≤ length text
  pub order : AllPairs (λ one other. IsBefore (map folded one) (map folded other)) texts
  pub spelled : (text : List ℕ) → Contains texts text → IsSpelled (folded_question question) (map folded text)
  pub least : (shown text : List ℕ) → Contains texts shown → IsText text → IsMeantFold question text
      → IsSpelled (folded_question question) (map folded text) → AgreeFold question shown text
      → ¬ IsBefore (map folded text) (map folded shown)
  pub cased : (text : List ℕ) → Contains texts text → IsCased question text
