-- A text that is put together from the tails of all rows is their report.
use Rattle.std.proofs.Common.{◌≡◌, ℕ, List, Bool, map, sym, ap, ◌∙◌, subst}
use Rattle.iam_world.specs.World.{WorldValue}
use Rattle.iam_row.specs.Piece.{text_of}
use Rattle.iam_row.specs.Report.{IsReport, Layout}
use Rattle.iam_row.specs.declared.quoted.Format.{Format}
use Rattle.iam_row.specs.declared.quoted.Quoted.{Quoted}
use Rattle.iam_row.specs.declared.tail.Tail.{Tail}

-- where what is put together from the tails that these have in the format of the texts is their report
pub report_is : {A : Type 0} (layout : Layout A) (world : WorldValue) (format : Format) (quoted : Quoted) (brief : Bool) (tail : Format → A → Tail)
    (entries : List A) (tails : List Tail) (text : List ℕ)
    → IsReport layout quoted.format world entries (text_of (record { quoted = quoted; brief = brief; tails = map (tail quoted.format) entries }))
    → quoted.format ≡ format → tails ≡ map (tail format) entries → text ≡ text_of (record { quoted = quoted; brief = brief; tails = tails })
    → IsReport layout format world entries text
report_is {A} layout world format quoted brief tail entries tails text law format_is e is =
    let whole : Format → List ℕ = λ f. text_of (record { quoted = quoted; brief = brief; tails = map (tail f) entries }) in
    let report : IsReport layout format world entries (whole format) = subst (λ (f : Format). IsReport layout f world entries (whole f)) format_is law in
    subst (IsReport layout format world entries) (sym (is ∙ ap (λ (ts : List Tail). text_of (record { quoted = quoted; brief = brief; tails = ts })) e)) report
