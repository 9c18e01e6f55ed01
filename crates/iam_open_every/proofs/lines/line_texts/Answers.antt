use Rattle.std.proofs.Common.{None, Some, get_or, map, option_map, string_bytes, subst}
use Rattle.std.specs.Option.{IfSome}
use Rattle.iam_every.specs.Every.{LineValue, every_of, line_of}
use Rattle.iam_every.specs.Groups.{groups_of}
use Rattle.iam_every.proofs.LineLemmas.{line_has, line_read}
use Rattle.iam_layers.specs.Unnamed.{IsThere}
use Rattle.iam_open_every.specs.Looked.{AreGroupsSeen, AreOpenGroupsAt, AsksBeyondAt}
use Rattle.iam_open_every.specs.Texts.{AreTextsBy}
use Rattle.iam_open_every.proofs.LineLemmas.{on_line, tell_by}
use Rattle.iam_open_every.proofs.lines.line_texts.Goals as goal

pub scene_of-scene-requires-clause-there : goal.scene_of-scene-requires-clause-there
scene_of-scene-requires-clause-there c =
    line_has (λ (line : LineValue). IsThere c.args.given.asked.world.now line.unnamed) c.args.given.asked.lines.now c.args.k c.index-given-k.result
    c.requires.given.there c.requires.line

pub returns-in_default-2-clause-texts : goal.returns-in_default-2-clause-texts
returns-in_default-2-clause-texts c =
    let every = every_of c.args.given.asked in
    let lines = c.args.given.asked.lines.now in
    let k = c.args.k in
    let line = line_of (get_or lines k c.index-given-k.result) in
    let scene = c.scene_of-scene.result in
    let of = c.scene_of-scene.ensures in (
      line,
      line_read lines k c.index-given-k.result c.requires.line,
      on_line AsksBeyondAt every c.args.given.p line scene.world.now scene.p scene.target _ of.world of.principal of.target
          (λ other r seat. c.in_ok-groups.ensures.beyond other r seat c.in_default-2.is),
    )

pub returns-in-Some-2-clause-texts : goal.returns-in-Some-2-clause-texts
returns-in-Some-2-clause-texts c =
    let every = every_of c.args.given.asked in
    let p = c.args.given.p in
    let lines = c.args.given.asked.lines.now in
    let k = c.args.k in
    let d = c.index-given-k.result in
    let line = line_of (get_or lines k d) in
    let scene = c.scene_of-scene.result in
    let of = c.scene_of-scene.ensures in
    let groups = groups_of c.in-Some.groups.items in
    let are : AreTextsBy every k groups (Some (map string_bytes c.in-Some-2.texts.items)) =
    subst (λ gs. AreTextsBy every k (groups_of gs) (Some (map string_bytes c.in-Some-2.texts.items))) c.as_slice.ensures.value
    (subst (λ found. AreTextsBy every k (groups_of c.as_slice.result.now) (option_map (λ texts. map string_bytes texts.items) found)) c.in-Some-2.is
    c.in_ok-texts.ensures.texts) in
    let at = line_read lines k d c.requires.line in
    let (shown, all) = are line at in
    let tell =
    tell_by every p line scene.world.now scene.p scene.target _ groups of.world of.principal of.target
    (λ unnamed text is. subst (λ found. IfSome found (λ gs. AreOpenGroupsAt scene.world.now scene.p unnamed (groups_of gs.items))) c.in-Some.is
    (c.in_ok-groups.ensures.apart unnamed text is)) in (
      all p tell,
      (
        line,
        at,
        record {
          groups = groups;
          seen = on_line (λ world q r. AreGroupsSeen world q r groups) every p line scene.world.now scene.p scene.target _ of.world of.principal of.target
              (λ other r seat. subst (λ found. IfSome found (λ gs. AreGroupsSeen other scene.p r (groups_of gs.items))) c.in-Some.is
              (c.in_ok-groups.ensures.seen other r seat));
          tell = tell;
          shown = shown;
        },
      ),
    )

pub returns-clause-texts : goal.returns-clause-texts
returns-clause-texts c =
    let every = every_of c.args.given.asked in
    let p = c.args.given.p in
    let lines = c.args.given.asked.lines.now in
    let k = c.args.k in
    let d = c.index-given-k.result in
    let line = line_of (get_or lines k d) in
    let scene = c.scene_of-scene.result in
    let of = c.scene_of-scene.ensures in
    let groups = groups_of c.in-Some.groups.items in
    let are : AreTextsBy every k groups None =
    subst (λ gs. AreTextsBy every k (groups_of gs) None) c.as_slice.ensures.value
    (subst (λ found. AreTextsBy every k (groups_of c.as_slice.result.now) (option_map (λ texts. map string_bytes texts.items) found)) c.in-None.is
    c.in_ok-texts.ensures.texts) in (
      line,
      line_read lines k d c.requires.line,
      record {
        groups = groups;
        seen = on_line (λ world q r. AreGroupsSeen world q r groups) every p line scene.world.now scene.p scene.target _ of.world of.principal of.target
            (λ other r seat. subst (λ found. IfSome found (λ gs. AreGroupsSeen other scene.p r (groups_of gs.items))) c.in-Some.is
            (c.in_ok-groups.ensures.seen other r seat));
        tell = tell_by every p line scene.world.now scene.p scene.target _ groups of.world of.principal of.target
            (λ unnamed text is. subst (λ found. IfSome found (λ gs. AreOpenGroupsAt scene.world.now scene.p unnamed (groups_of gs.items))) c.in-Some.is
            (c.in_ok-groups.ensures.apart unnamed text is));
        passes = are line (line_read lines k d c.requires.line);
      },
    )
