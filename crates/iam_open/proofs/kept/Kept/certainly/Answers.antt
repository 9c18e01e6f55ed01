use Rattle.std.proofs.Common.{[], None, ℕ, subst, sym}
use Rattle.std.proofs.lemmas.Result.{IfOk-weaker}
use Rattle.iam_open.specs.Code.Pairs.{IsKept, IsPairAt}
use Rattle.iam_open.specs.declared.certain.Certain.{Certain}
use Rattle.iam_open.proofs.PairLemmas.{always_plain, never_plain}
use Rattle.iam_open.proofs.kept.Kept.certainly.Goals as goal

pub returns-in-Some-clause-always : goal.returns-in-Some-clause-always
returns-in-Some-clause-always c = λ worlds among.
    let world = c.args.world.now in
    let p = c.args.p in
    let a = c.args.a in
    let r = c.args.r in
    IfOk-weaker c.pair_certain.result _ _
    (λ (certain : Certain) told always.
    always_plain worlds world p a r among (told world p a r [] None c.action_text.ensures (c.in-Some.ensures world c.requires.kept) always))
    c.pair_certain.ensures.always

pub returns-in-Some-clause-never : goal.returns-in-Some-clause-never
returns-in-Some-clause-never c = λ worlds among.
    let world = c.args.world.now in
    let p = c.args.p in
    let a = c.args.a in
    let r = c.args.r in
    IfOk-weaker c.pair_certain.result _ _
    (λ (certain : Certain) told never.
    never_plain worlds world p a r among (told world p a r [] None c.action_text.ensures (c.in-Some.ensures world c.requires.kept) never))
    c.pair_certain.ensures.never

pub returns-clause-always : goal.returns-clause-always
returns-clause-always c = λ worlds among always.
    let world = c.args.world.now in
    let p = c.args.p in
    let a = c.args.a in
    let r = c.args.r in
    let is = subst (λ (q : ℕ). IsPairAt world q r [] None c.in_ok-pair.pair) c.named.ensures.principal (c.in_ok-pair.ensures.is world r c.named.ensures.seat) in
    always_plain worlds world p a r among (c.in_ok-certain.ensures.always world p a r [] None c.action_text-2.ensures is always)

pub returns-clause-never : goal.returns-clause-never
returns-clause-never c = λ worlds among never.
    let world = c.args.world.now in
    let p = c.args.p in
    let a = c.args.a in
    let r = c.args.r in
    let is = subst (λ (q : ℕ). IsPairAt world q r [] None c.in_ok-pair.pair) c.named.ensures.principal (c.in_ok-pair.ensures.is world r c.named.ensures.seat) in
    never_plain worlds world p a r among (c.in_ok-certain.ensures.never world p a r [] None c.action_text-2.ensures is never)

pub returns-clause-kept : goal.returns-clause-kept
returns-clause-kept c =
    let world = c.args.world.now in
    let pair = c.in_ok-pair.pair in
    let seat = c.named.ensures.seat in
    let is : IsKept world pair =
    subst (λ r. IsPairAt world pair.principal r [] None pair) (sym (c.in_ok-pair.ensures.resource world c.args.r seat))
    (subst (λ p. IsPairAt world p c.args.r [] None pair) (sym c.in_ok-pair.ensures.principal) (c.in_ok-pair.ensures.is world c.args.r seat)) in
    c.keep.ensures world c.requires.kept is
