-- Which of some statements live in requests, as the bits of a number. LOGIC 1.1.
use Rattle.std.specs.Prelude.{◌≡◌, ◌↔◌, ◌/◌, ◌%◌, ℕ, List, [], ◌∷◌, ◌++◌}
use Rattle.iam_match.specs.Requester.{RequesterValue}
use Rattle.iam_match.specs.Statement.{AccessValue}
use Rattle.iam_decision.specs.Living.{AreLiving, Lives, LivingValue}
use Rattle.iam_decision.specs.Matched.{Placed}

-- the bits of the word, from the least on, say of each of the statements whether it lives; behind them is none
abbrev pub AreBits : AccessValue → List Placed → ℕ → Type 0
AreBits access [] word = word ≡ 0
AreBits access (s ∷ statements) word = ((word % 2 ≡ 1) ↔ Lives access s) × AreBits access statements (word / 2)

-- where another word is that of any statements, this word is that of these ones with those behind them
abbrev pub GoesBefore : AccessValue → List Placed → ℕ → ℕ → Type 0
GoesBefore access statements behind word =
    (others : List Placed) → AreBits access others behind → AreBits access (statements ++ others) word

-- of a word that begins with the bits of these statements these are the bits behind them, and behind the living ones of any
-- statements stand now those of these ones too
abbrev pub TakesBits : RequesterValue → List Placed → ℕ → List LivingValue → List LivingValue → ℕ → Type 0
TakesBits requester statements word old new bits =
    (access : AccessValue) (before others : List Placed) → access.requester ≡ requester → AreBits access (statements ++ others) word
    → AreLiving access before old → AreLiving access (before ++ statements) new × AreBits access others bits
