use Rattle.std.proofs.Common.{◌≡◌, ◌++◌, ◌∙◌, ℕ, Bor, List, ap, chars, map, sym}
use Rattle.std.proofs.lemmas.List.{map-append}
use Rattle.std.proofs.lemmas.Simd.{map-map}
use Rattle.iam_asked.specs.Texts.{resource_texts}
use Rattle.iam_every_changes.specs.States.{both_of, joint}
use Rattle.iam_every_changes.proofs.LineLemmas.{names_joint}
use Rattle.iam_every_changes.proofs.rows.walks_of.Goals as goal

pub returns : goal.returns
returns c =
    let both = both_of c.args.both in
    let now : Bor (List ℕ) → List ℕ = λ name. name.now in
    let ns = c.in_ok-names.names.items in
    let ms = c.in_ok-more.more.items in
    let after = resource_texts both.after.every.world in
    let texts : map now (ns ++ ms) ≡ resource_texts (joint both).world =
    map-append now ns ms ∙ ap (λ l. l ++ map now ms) c.in_ok-names.ensures.are ∙ ap (λ l. after ++ l) c.in_ok-more.ensures.are ∙ sym (names_joint both) in
    record {
      found = c.in_ok-walks.ensures.found;
      names = c.in_ok-walks.ensures.named ∙ ap (map (λ text. chars text.now)) (c.as_slice.ensures.value ∙ c.in_ok-append.ensures.items)
          ∙ sym (map-map chars now (ns ++ ms)) ∙ ap (map chars) texts;
    }
