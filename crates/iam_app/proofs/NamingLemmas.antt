-- Lines that are lent say what is there, and principals that are meant are there.
use Rattle.std.proofs.Common.{◌≡◌, ◌↔◌, ◌∙◌, ◌∷◌, [], ◌++◌, ◌+◌, inl, inr, zero, suc, ℕ, All, List, Option, ap, arith, chars, map, refl, string_bytes, subst, sym}
use Rattle.std.proofs.lemmas.List.{append-nil}
use Rattle.std.proofs.lemmas.List.Elements.{All-cons, All-head, All-nil, All-tail}
use Rattle.std.proofs.lemmas.Option.{same_Some}
use Rattle.std.specs.List.{AllZip, range_with_len}
use Rattle.iam_glob.specs.Glob.{Matches}
use Rattle.iam_glob.specs.declared.sign.Sign.{Sign}
use Rattle.iam_decision.specs.Matched.{Selects}
use Rattle.iam_layers.specs.Cell.{IsPrincipal, principal_text}
use Rattle.iam_world.specs.World.{WorldValue}
use Rattle.iam_layers.specs.Unnamed.{IsThere}
use Rattle.iam_layers.specs.declared.unnamed.Unnamed.{Unnamed}
use Rattle.iam_layers.specs.declared.unnamed.Unnamed.TheVariants.{Like, Of}
use Rattle.iam_asked.specs.File.{lines_of}
use Rattle.iam_asked.specs.TextLines.{AreTextLines, IsKnown, SaidOfValue, TextLineValue, like_resource, of_account, text_line_of}
use Rattle.iam_asked.specs.declared.texts.TextLine.{TextLine}
use Rattle.iam_every.specs.Every.{EveryValue, LineValue, line_of}
use Rattle.iam_every.specs.declared.asked.Line.{Line}
use Rattle.iam_options.specs.declared.every.EveryCommand.{EveryCommand}
use Rattle.iam_app.specs.Code.Naming.{AreKnown, IsLent, IsNoReport, IsNoReportOf}
use Rattle.iam_app.specs.declared.fault.RunFault.TheVariants as f
use Rattle.iam_app.specs.declared.names_fault.NamesFault.{NamesFault}
use Rattle.iam_app.specs.declared.names_fault.NamesFault.TheVariants as n
use Rattle.iam_options.specs.declared.every.Texts.{Texts}
use Rattle.iam_options.specs.declared.every.Texts.TheVariants as x
use Rattle.iam_selection.specs.Selection.{IsMeant}
use Rattle.iam_app.specs.Names.{AreSaid, IsAskedOf, IsLineOf, IsOneLine, IsPrincipalMeant, IsUnnamedOf}

-- what a line says is there
said_there : (world : WorldValue) (said : SaidOfValue) (unnamed : Unnamed) → IsUnnamedOf said unnamed → IsKnown world said → IsThere world unnamed
said_there world (like_resource n) unnamed is known = subst (IsThere world) (sym is) known
said_there world (of_account id) (Like r) is known = absurd is
said_there world (of_account id) (Of account) is known = tt

-- and so is what each says
pub all_there : (world : WorldValue) (lines : List TextLine) (lent : List Line) → AllZip IsLent lines lent → AreKnown world (map text_line_of lines)
    → All (λ line. IsThere world line.unnamed) (map line_of lent)
all_there world [] [] are known = All-nil _
all_there world [] (x ∷ lent) are known = absurd are
all_there world (line ∷ lines) [] are known = absurd are
all_there world (line ∷ lines) (x ∷ lent) are known =
    let K : TextLineValue → Type 0 = λ value. IsKnown world value.said in
    let T : LineValue → Type 0 = λ value. IsThere world value.unnamed in
    All-cons T (line_of x) (map line_of lent)
    (said_there world (text_line_of line).said x.unnamed are.0.said (All-head K (text_line_of line) (map text_line_of lines) known))
    (all_there world lines lent are.1 (All-tail K (text_line_of line) (map text_line_of lines) known))

-- the lines without where they lie in memory
pub all_lines : (lines : List TextLine) (lent : List Line) → AllZip IsLent lines lent → AllZip IsLineOf (map text_line_of lines) (map line_of lent)
all_lines [] [] are = tt
all_lines [] (x ∷ lent) are = absurd are
all_lines (line ∷ lines) [] are = absurd are
all_lines (line ∷ lines) (x ∷ lent) are = (are.0, all_lines lines lent are.1)

one_known : (world : WorldValue) (pattern : List ℕ) (said : SaidOfValue) (values : List TextLineValue) → IsOneLine world pattern said values
    → AreKnown world values
one_known world pattern said values is =
    let K : TextLineValue → Type 0 = λ v. IsKnown world v.said in
    subst (All K) (sym is.1) (All-cons K (record { pattern = pattern; said = said }) [] is.0 (All-nil K))

-- what is said of texts is known
pub said_known : (texts : Texts) (file : Option (List ℕ)) (world : WorldValue) (values : List TextLineValue) → AreSaid texts file world values
    → AreKnown world values
said_known (x.File name) file world values (bytes, all, are) = lines_known world (lines_of bytes) values are
  where
    lines_known : (world : WorldValue) (lines : List (List ℕ)) (values : List TextLineValue) → AreTextLines world lines values → AreKnown world values
    lines_known world [] [] are = All-nil _
    lines_known world [] (value ∷ values) are = absurd are
    lines_known world (line ∷ lines) [] are = absurd are
    lines_known world (line ∷ lines) (value ∷ values) are =
        let K : TextLineValue → Type 0 = λ v. IsKnown world v.said in
        All-cons K value values are.0.1 (lines_known world lines values are.1)
said_known (x.Like pattern number) file world values is = one_known world (string_bytes pattern) (like_resource number) values is
said_known (x.Account pattern id) file world values is = one_known world (string_bytes pattern) (of_account (string_bytes id)) values is

-- ---- principals

-- a principal is meant where its text is
pub is_meant_at : (patterns : List (List Sign)) (world : WorldValue) (p : ℕ) (text : List ℕ)
    → IsPrincipal world p (λ principal. text ≡ principal_text principal)
    → IsMeant (λ pattern. Matches pattern (chars text)) patterns ↔ IsPrincipalMeant patterns world p
is_meant_at patterns world p text (principal, at, is) =
    let M : List ℕ → Type 0 = λ t. IsMeant (λ pattern. Matches pattern (chars t)) patterns in (
      λ m. (principal, at, subst M is m),
      λ h.
          let same : h.0 ≡ principal = same_Some _ _ (sym h.1 ∙ at) in
          subst M (ap principal_text same ∙ sym is) h.2,
    )

range_more : (a n : ℕ) → range_with_len a (n + 1) ≡ range_with_len a n ++ ((a + n) ∷ [])
range_more a zero = ap (λ (i : ℕ). i ∷ []) (let same : a ≡ a + 0 = omega arith in same)
range_more a (suc n) =
    let step : a + 1 + n ≡ a + suc n = omega arith in
    let last : suc n + 1 ≡ suc (n + 1) = omega arith in
    ap (range_with_len a) last ∙ ap (λ rest. a ∷ rest) (range_more (a + 1) n)
    ∙ ap (λ (i : ℕ). a ∷ (range_with_len (a + 1) n ++ (i ∷ []))) step

next_range : (n : ℕ) → range_with_len 0 (n + 1) ≡ range_with_len 0 n ++ (n ∷ [])
next_range n = range_more 0 n ∙ ap (λ (i : ℕ). range_with_len 0 n ++ (i ∷ [])) (let same : 0 + n ≡ n = omega arith in same)

both : (P : ℕ → Type 0) (xs ys a b : List ℕ) → Selects P xs a → Selects P ys b → Selects P (xs ++ ys) (a ++ b)
both P [] ys a b h k = subst (λ z. Selects P ys (z ++ b)) (sym h) k
both P (x ∷ xs) ys a b (inl h) k = inl (h.0, (h.1.0 ++ b, ap (λ z. z ++ b) h.1.1, both P xs ys h.1.0 b h.1.2 k))
both P (x ∷ xs) ys a b (inr h) k = inr (h.0, both P xs ys a b h.1 k)

-- the next number is chosen, or is not
pub next_chosen : (P : ℕ → Type 0) (n : ℕ) (chosen more : List ℕ) → Selects P (range_with_len 0 n) chosen → P n → more ≡ chosen ++ (n ∷ [])
    → Selects P (range_with_len 0 (n + 1)) more
next_chosen P n chosen more before holds added =
    let here = both P (range_with_len 0 n) (n ∷ []) chosen (n ∷ []) before (inl (holds, ([], refl, refl))) in
    subst (λ z. Selects P (range_with_len 0 (n + 1)) z) (sym added)
    (subst (λ z. Selects P z (chosen ++ (n ∷ []))) (sym (next_range n)) here)

pub next_passed : (P : ℕ → Type 0) (n : ℕ) (chosen more : List ℕ) → Selects P (range_with_len 0 n) chosen → ¬ P n → more ≡ chosen
    → Selects P (range_with_len 0 (n + 1)) more
next_passed P n chosen more before not same =
    let here = both P (range_with_len 0 n) (n ∷ []) chosen [] before (inr (not, refl)) in
    subst (λ z. Selects P (range_with_len 0 (n + 1)) z) (append-nil chosen ∙ sym same)
    (subst (λ z. Selects P z (chosen ++ [])) (sym (next_range n)) here)

-- ---- the report

-- there is no report of what is asked by these lines
pub no_report : (command : EveryCommand) (world : WorldValue) (lines : List TextLineValue) (every : EveryValue) → IsAskedOf command.action world lines every
    → (fault : NamesFault) → IsNoReportOf command every fault → IsNoReport command world lines fault
no_report command world lines every asked (n.Run f.Read) is = absurd is
no_report command world lines every asked (n.Run (f.World fault)) is = absurd is
no_report command world lines every asked (n.Run (f.Matrix fault)) is = absurd is
no_report command world lines every asked (n.Run f.Write) is = absurd is
no_report command world lines every asked (n.Run f.NoSuchCell) is = absurd is
no_report command world lines every asked (n.Run (f.Cut fault)) is = absurd is
no_report command world lines every asked (n.Run f.OutOfMemory) is = tt
no_report command world lines every asked n.Kinds is = (every, asked, is)
no_report command world lines every asked (n.Texts faulty) is = absurd is
no_report command world lines every asked n.LongTexts is = absurd is
