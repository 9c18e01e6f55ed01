-- A condition is read as at most one list of entries.
use Rattle.std.proofs.Common.{◌≡◌, ℕ, ℤ, List, [], ◌∷◌, Bool, Option, Some, None, MatchOption, refl, sym, ap, ◌∙◌}
use Rattle.std.specs.List.{AllZip}
use Rattle.serde_json.specs.Data.{Data}
use Rattle.iam_text.specs.declared.draft.Piece.{Piece}
use Rattle.iam_text.specs.declared.version.Version.{Version}
use Rattle.iam_text.specs.Draft.{IsDraftIn}
use Rattle.iam_value.specs.Address.{Block, IsRange}
use Rattle.iam_value.specs.Moment.{IsMoment}
use Rattle.iam_value.specs.Values.{IsBase64, IsTruth, IsWhole}
use Rattle.iam_condition.specs.declared.operand.Operand.{Operand}
use Rattle.iam_condition.specs.declared.operand.Operand.TheVariants as operand
use Rattle.iam_condition.specs.declared.operator.Base.{Base}
use Rattle.iam_condition.specs.declared.operator.Base.TheVariants.{Text, Arn, Number, Date, Truth, Binary, Address, Null}
use Rattle.iam_condition.specs.Condition.{Given, ReadsCondition, ReadsEntry, ReadsValue, given_in, values_under}
use Rattle.iam_condition.specs.Entry.{EntryValue}
use Rattle.iam_condition.specs.Operand.{IsOperand, IsTextOperand, IsValueOperand, text_form}

-- a text has at most one value of each kind
pub record OneValue : Type 0 where
  pub draft : (version : Version) (wild : Bool) (text : List ℕ) (pieces other : List Piece) → IsDraftIn version wild text pieces → IsDraftIn version wild text other → pieces ≡ other
  pub whole : (text : List ℕ) (value other : ℤ) → IsWhole text value → IsWhole text other → value ≡ other
  pub moment : (text : List ℕ) (value other : ℤ) → IsMoment text value → IsMoment text other → value ≡ other
  pub truth : (text : List ℕ) (value other : Bool) → IsTruth text value → IsTruth text other → value ≡ other
  pub bytes : (text value other : List ℕ) → IsBase64 text value → IsBase64 text other → value ≡ other
  pub range : (text : List ℕ) (value other : Block) → IsRange text value → IsRange text other → value ≡ other

value_is_one : OneValue → (base : Base) (text : List ℕ) (v w : Operand) → IsValueOperand base text v → IsValueOperand base text w → v ≡ w
value_is_one one (Text test) text v w a b = absurd a
value_is_one one Arn text v w a b = absurd a
value_is_one one (Number order) text v w a b = a.1 ∙ ap operand.Number (one.whole text a.0 b.0 a.2 b.2) ∙ sym b.1
value_is_one one (Date order) text v w a b = a.1 ∙ ap operand.Instant (one.moment text a.0 b.0 a.2 b.2) ∙ sym b.1
value_is_one one Truth text v w a b = a.1 ∙ ap operand.Truth (one.truth text a.0 b.0 a.2 b.2) ∙ sym b.1
value_is_one one Binary text v w a b = a.1 ∙ ap operand.Bytes (one.bytes text a.0 b.0 a.2 b.2) ∙ sym b.1
value_is_one one Address text v w a b = a.1 ∙ ap operand.Range (one.range text a.0 b.0 a.2 b.2) ∙ sym b.1
value_is_one one Null text v w a b = a.1 ∙ ap operand.Truth (one.truth text a.0 b.0 a.2 b.2) ∙ sym b.1

one_operand : OneValue → (version : Version) (base : Base) (text : List ℕ) (v w : Operand) → IsOperand version base text v → IsOperand version base text w → v ≡ w
one_operand one version base text v w a b = go (text_form base) a b
  where
    Is : Option Bool → Operand → Type 0
    Is form x = MatchOption form (IsValueOperand base text x) (λ wild. IsTextOperand version wild text x)

    go : (form : Option Bool) → Is form v → Is form w → v ≡ w
    go None a b = value_is_one one base text v w a b
    go (Some wild) a b = a.1 ∙ ap operand.Text (one.draft version wild text a.0 b.0 a.2 b.2) ∙ sym b.1

one_value : OneValue → (version : Version) (base : Base) (d : Data) (v w : Operand) → ReadsValue version base d v → ReadsValue version base d w → v ≡ w
one_value one version base d v w a b =
    let same : a.0 ≡ b.0 = cc in
    one_operand one version base b.0 v w (rw same at a.2) b.2

-- where each element has one reading, so has a list
zip_unique : {X Y : Type 0} (R : X → Y → Type 0) → ((x : X) (y z : Y) → R x y → R x z → y ≡ z) → (xs : List X) (ys zs : List Y) → AllZip R xs ys → AllZip R xs zs → ys ≡ zs
zip_unique R step [] [] [] one two = refl
zip_unique R step [] [] (z ∷ zs) one two = absurd two
zip_unique R step [] (y ∷ ys) zs one two = absurd one
zip_unique R step (x ∷ xs) [] zs one two = absurd one
zip_unique R step (x ∷ xs) (y ∷ ys) [] one two = absurd two
zip_unique R step (x ∷ xs) (y ∷ ys) (z ∷ zs) one two =
    ap (λ a. a ∷ ys) (step x y z one.0 two.0) ∙ ap (λ rest. z ∷ rest) (zip_unique R step xs ys zs one.1 two.1)

same_entry : (a b : EntryValue) → a.operator ≡ b.operator → a.key ≡ b.key → a.values ≡ b.values → a ≡ b
same_entry a b operator key values = λ i. record { operator = operator i; key = key i; values = values i }

one_entry : OneValue → (version : Version) (g : Given) (a b : EntryValue) → ReadsEntry version g a → ReadsEntry version g b → a ≡ b
one_entry one version g a b left right =
    same_entry a b (left.operator ∙ sym right.operator) (left.key ∙ sym right.key)
    (zip_unique (ReadsValue version g.operator.base) (one_value one version g.operator.base) (values_under g.value) a.values b.values left.values right.values)

pub condition_is_one : OneValue → (version : Version) (condition : Data) (entries other : List EntryValue) → ReadsCondition version condition entries
    → ReadsCondition version condition other → entries ≡ other
condition_is_one one version condition entries other left right =
    zip_unique (ReadsEntry version) (one_entry one version) (given_in condition) entries other left right
