use Rattle.std.proofs.Common.{◌≡◌, ◌↔◌, All, Global, IsTrue, List, String, arith, codes, map, string_bytes, subst, sym}
use Rattle.std.proofs.lemmas.List.{get_or-map, length-map}
use Rattle.std.proofs.lemmas.List.Elements.{All-map}
use Rattle.iam_options.specs.AnyKey.{is_any_key_word}
use Rattle.iam_options.specs.Words.{texts_at}
use Rattle.iam_options.proofs.any_key.has_words.Goals as goal

pub returns : goal.returns
returns c =
    let words : List (String Global) = c.in_ok-words.words.items in
    let P : List _ → Type 0 = λ word. is_any_key_word word ≡ c.args.any_key in
    let same : map string_bytes words ≡ texts_at c.args.command.now (codes "decision") = c.in_ok-words.ensures in
    let told = subst (λ (xs : List (String Global)). IsTrue c.are_words.result ↔ All (λ word. P (string_bytes word)) xs) c.as_slice.ensures.value c.are_words.ensures in (
      λ are. subst (λ (xs : List _). All P xs) same (All-map P string_bytes words (told.0 are)),
      λ all.
          let whole = subst (λ (xs : List _). All P xs) (sym same) all in
          told.1 (λ k d below. subst P (get_or-map string_bytes words k d (string_bytes d) below) (whole k (string_bytes d) (omega (arith, below, length-map words string_bytes)))),
    )
