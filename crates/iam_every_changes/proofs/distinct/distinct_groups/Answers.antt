use Rattle.std.proofs.Common.{◌≡◌, ◌∷◌, [], ◌++◌, ◌∙◌, true, Contains, List, ap, map, subst, sym}
use Rattle.std.proofs.lemmas.List.{map-append}
use Rattle.iam_glob.specs.declared.sign.Sign.{Sign}
use Rattle.iam_every.specs.Groups.{groups_of, signs_of}
use Rattle.iam_every.specs.OwnGroups.{AreFirsts}
use Rattle.iam_every.proofs.FirstLemmas.{firsts_more, firsts_skip}
use Rattle.iam_every_changes.proofs.distinct.distinct_groups.Goals as goal

pub loop-group-preserved-in-Continue-1 : goal.loop-group-preserved-in-Continue-1
loop-group-preserved-in-Continue-1 c =
    let group : List (List Sign) = map signs_of c.in-Some.group.items in
    let seen = groups_of c.loop-group.yielded in
    let firsts = groups_of c.loop-group.firsts.items in
    let fresh : ¬ Contains ([] ++ firsts) group = λ among.
    let there : Contains (groups_of c.as_slice.result.now) (map signs_of c.as_slice-in-loop-group.result.now) =
    subst (λ l. Contains (groups_of l) (map signs_of c.as_slice-in-loop-group.result.now)) (sym c.as_slice.ensures.value)
    (subst (λ l. Contains firsts (map signs_of l)) (sym c.as_slice-in-loop-group.ensures.value) among) in
    let yes = c.is_among.ensures.1 there in let no = c.if-not-is_among.true in let wrong : ⊥ = cc in wrong in
    let pushed : groups_of c.push.new.self.items ≡ firsts ++ (group ∷ []) =
    ap groups_of c.in_ok-push.ensures.items ∙ map-append (λ g. map signs_of g.items) c.loop-group.firsts.items (c.in-Some.group ∷ []) in
    subst (λ (l : List (List (List Sign))). AreFirsts [] (groups_of (c.loop-group.yielded ++ c.in-Some.group ∷ [])) l) (sym pushed)
    (subst (λ (l : List (List (List Sign))). AreFirsts [] l (firsts ++ (group ∷ [])))
    (sym (map-append (λ g. map signs_of g.items) c.loop-group.yielded (c.in-Some.group ∷ [])))
    (firsts_more [] seen firsts group c.loop-group.invariant fresh))

pub loop-group-preserved : goal.loop-group-preserved
loop-group-preserved c =
    let group : List (List Sign) = map signs_of c.in-Some.group.items in
    let seen = groups_of c.loop-group.yielded in
    let firsts = groups_of c.loop-group.firsts.items in
    let found : c.is_among.result ≡ true = c.if-not-is_among.false in
    let there = c.is_among.ensures.0 found in
    let among : Contains ([] ++ firsts) group =
    subst (λ l. Contains firsts (map signs_of l)) c.as_slice-in-loop-group.ensures.value
    (subst (λ l. Contains (groups_of l) (map signs_of c.as_slice-in-loop-group.result.now)) c.as_slice.ensures.value there) in
    subst (λ (l : List (List (List Sign))). AreFirsts [] l firsts)
    (sym (map-append (λ g. map signs_of g.items) c.loop-group.yielded (c.in-Some.group ∷ [])))
    (firsts_skip [] seen firsts group c.loop-group.invariant among)
