use Rattle.std.proofs.Common.{◌≡◌, ◌∙◌, ◌∷◌, ◌++◌, [], List, ℕ, ap, false, sym}
use Rattle.iam_context.specs.Context.{has_key}
use Rattle.iam_open.proofs.AskLemmas.{added_known, added_new, added_there}
use Rattle.iam_open.proofs.hangs.add_key.Goals as goal

pub returns-then-has : goal.returns-then-has
returns-then-has c = sym (added_known c.args.known.now c.args.keys.now.items c.args.key.now (sym c.has.ensures ∙ c.if-has.true))

pub returns-then-has_key : goal.returns-then-has_key
returns-then-has_key c =
    sym (added_there c.args.known.now c.args.keys.now.items c.args.key.now
    (sym (ap (λ keys. has_key keys c.args.key.now) c.as_slice.ensures.value) ∙ sym c.has_key.ensures ∙ c.if-has_key.true))

pub returns : goal.returns
returns c =
    let known = c.args.known.now in
    let keys = c.args.keys.now.items in
    let key = c.args.key.now in
    let absent : has_key keys key ≡ false =
    sym (ap (λ keys. has_key keys key) c.as_slice.ensures.value) ∙ sym c.has_key.ensures ∙ c.if-has_key.false in
    let unknown : has_key known key ≡ false = sym c.has.ensures ∙ c.if-has.false in
    let pushed : c.push.new.self.items ≡ keys ++ (key ∷ []) =
    c.in_ok-push.ensures.items ∙ ap (λ (k : List ℕ). keys ++ (k ∷ [])) c.in_ok-read.ensures in
    ◌∙◌ {A = List (List ℕ)} pushed (sym (added_new known keys key unknown absent))
