-- A line says one thing at most of texts, and its least fault follows from what is found.
use Rattle.std.proofs.Common.{◌≡◌, ℕ, ◌<◌, ◌≤◌, List, refl, sym, ap, subst, ◌∙◌, arith}
use Rattle.serde_json.specs.Data.{Data}
use Rattle.iam_world.specs.World.{WorldValue}
use Rattle.iam_asked.specs.TextFault.{IsTextFault, SaidOfHasFault, TextHasFault, text_rank, unknown_fault}
use Rattle.iam_asked.specs.TextLines.{IsKnown, IsTextLine, IsTextShape, SaidOfValue, SaysText, TextLineValue, like_resource, of_account}
use Rattle.iam_asked.specs.declared.text_fault.TextFault.{TextFault}
use Rattle.iam_asked.specs.declared.text_fault.TextFault.TheVariants.{NotJson, BadShape, NoResource, NoAccount, TooMany, TooLarge, OutOfMemory}
use Rattle.iam_asked.proofs.Meanings.{one_json, some_same}

-- ---- one meaning

one_shape : (d : Data) (value other : TextLineValue) → IsTextShape d value → IsTextShape d other → value ≡ other
one_shape d value other one two =
    ap (λ x. record { pattern = x; said = value.said }) (some_same value.pattern other.pattern (sym one.pattern ∙ two.pattern))
    ∙ ap (λ x. record { pattern = other.pattern; said = x }) (some_same value.said other.said (sym one.said ∙ two.said))

one_text : (line : List ℕ) (value other : TextLineValue) → SaysText line value → SaysText line other → value ≡ other
one_text line value other (d, json, one) (e, json', two) =
    one_shape d value other one (subst (λ x. IsTextShape x other) (sym (one_json line d e json json')) two)

pub one_text_line : (world : WorldValue) (line : List ℕ) (value other : TextLineValue) → IsTextLine world line value → IsTextLine world line other → value ≡ other
one_text_line world line value other one two = one_text line value other one.0 two.0

-- ---- what a line that says something has not

says_is_json : (world : WorldValue) (n : ℕ) (line : List ℕ) (value : TextLineValue) → SaysText line value → ¬ TextHasFault world n line NotJson
says_is_json world n line value (d, json, is) has = has d json

says_has_shape : (world : WorldValue) (n : ℕ) (line : List ℕ) (value : TextLineValue) → SaysText line value → ¬ TextHasFault world n line BadShape
says_has_shape world n line value (d, json, is) (e, json', none) = none value (subst (λ x. IsTextShape x value) (one_json line d e json json') is)

-- a fault of what one line says is that of what it says
one_unknown : (world : WorldValue) (line : List ℕ) (value other : TextLineValue) (fault : TextFault) → SaysText line value → SaysText line other
    → SaidOfHasFault world other.said fault → SaidOfHasFault world value.said fault
one_unknown world line value other fault says says' has =
    subst (λ (v : TextLineValue). SaidOfHasFault world v.said fault) (one_text line other value says' says) has

-- ---- the least fault

-- what is not known is a fault of the line
unknown_has : (world : WorldValue) (n : ℕ) (line : List ℕ) (value : TextLineValue) (said : SaidOfValue) → value.said ≡ said → SaysText line value
    → ¬ IsKnown world value.said → TextHasFault world n line (unknown_fault said)
unknown_has world n line value (like_resource r) is says none = (value, says, (sym (ap unknown_fault is), none))
unknown_has world n line value (of_account id) is says none = (value, says, (sym (ap unknown_fault is), none))

-- and its least
unknown_least : (world : WorldValue) (n : ℕ) (line : List ℕ) (value : TextLineValue) → n < 65536 → SaysText line value → (other : TextFault)
    → TextHasFault world n line other → text_rank (unknown_fault value.said) ≤ text_rank other
unknown_least world n line value few says NotJson has = absurd (says_is_json world n line value says has)
unknown_least world n line value few says BadShape has = absurd (says_has_shape world n line value says has)
unknown_least world n line value few says NoResource (other, says', has) =
    let same = ap text_rank (one_unknown world line value other NoResource says says' has).0 in omega (arith, same)
unknown_least world n line value few says NoAccount (other, says', has) =
    let same = ap text_rank (one_unknown world line value other NoAccount says says' has).0 in omega (arith, same)
unknown_least world n line value few says TooMany has = absurd (omega (arith, has, few))
unknown_least world n line value few says TooLarge has = absurd has
unknown_least world n line value few says OutOfMemory has = absurd has

pub text_unknown : (world : WorldValue) (n : ℕ) (line : List ℕ) (value : TextLineValue) (fault : TextFault) → n < 65536 → SaysText line value
    → SaidOfHasFault world value.said fault → IsTextFault world n line fault
text_unknown world n line value fault few says (is, none) =
    subst (IsTextFault world n line) (sym is)
    (record { holds = unknown_has world n line value value.said refl says none; least = unknown_least world n line value few says })

-- ---- no fault

pub no_fault_of_text_line : (world : WorldValue) (n : ℕ) (line : List ℕ) (value : TextLineValue) (fault : TextFault) → IsTextLine world line value
    → TextHasFault world n line fault → fault ≡ TooMany
no_fault_of_text_line world n line value NotJson (says, known) has = absurd (says_is_json world n line value says has)
no_fault_of_text_line world n line value BadShape (says, known) has = absurd (says_has_shape world n line value says has)
no_fault_of_text_line world n line value NoResource (says, known) (other, says', has) =
    absurd ((one_unknown world line value other NoResource says says' has).1 known)
no_fault_of_text_line world n line value NoAccount (says, known) (other, says', has) =
    absurd ((one_unknown world line value other NoAccount says says' has).1 known)
no_fault_of_text_line world n line value TooMany (says, known) has = refl
no_fault_of_text_line world n line value TooLarge (says, known) has = absurd has
no_fault_of_text_line world n line value OutOfMemory (says, known) has = absurd has
