use Rattle.std.proofs.Common.{◌≡◌, ◌++◌, ℕ, length, map, string_bytes, sym, ap, subst, ◌∙◌}
use Rattle.std.proofs.lemmas.List.{length-map, map-append}
use Rattle.std.specs.List.{range_with_len}
use Rattle.std.specs.Arc.{arc_value}
use Rattle.iam_every.specs.Code.Rows.{AreRowsOn, IsLinedBelow}
use Rattle.iam_every.specs.Every.{AreRowsFor, every_of, line_of, row_of}
use Rattle.iam_every.specs.Made.{AreJoined, AreOfLine}
use Rattle.iam_every.proofs.RowLemmas.{rows_for_one}
use Rattle.iam_every.proofs.rows.rows_for.Goals as goal

pub named_rows-requires-clause-told : goal.named_rows-requires-clause-told
named_rows-requires-clause-told c = let (actions, at, named, star, lined) = c.requires.told in (actions, at, named)

pub star_rows-requires : goal.star_rows-requires
star_rows-requires c = let (actions, at, named, star, lined) = c.requires.told in record { told = (actions, at, star) }

pub rows_of_lines-requires : goal.rows_of_lines-requires
rows_of_lines-requires c = let (actions, at, named, star, lined) = c.requires.told in record { told = (actions, at, lined) }

pub returns-clause-rows : goal.returns-clause-rows
returns-clause-rows c =
    let given = c.args.given in
    let every = every_of given.asked in
    let p = given.p in
    let action = string_bytes (arc_value c.args.action.now) in
    let named = map row_of c.in_ok-rows.rows.items in
    let star = map row_of c.in_ok-starred.starred.items in
    let lined = map row_of c.in_ok-further.further.items in
    let first : map row_of c.append.new.self.items ≡ named ++ star =
    ap (map row_of) c.in_ok-append.ensures.items ∙ map-append row_of c.in_ok-rows.rows.items c.in_ok-starred.starred.items in
    let all : map row_of c.append-2.new.self.items ≡ (named ++ star) ++ lined =
    ap (map row_of) c.in_ok-append-2.ensures.items ∙ map-append row_of c.append.new.self.items c.in_ok-further.further.items
    ∙ ap (λ xs. xs ++ lined) first in
    let below : AreRowsOn every p action (IsLinedBelow every (length every.lines)) lined =
    subst (λ (n : ℕ). AreRowsOn every p action (IsLinedBelow every n) lined) (sym (length-map given.asked.lines.now line_of)) c.in_ok-further.ensures.rows in
    subst (AreRowsFor every p action) (sym all) (rows_for_one every p action named star lined c.in_ok-rows.ensures.rows
    c.in_ok-starred.ensures.rows below)

pub returns-clause-made : goal.returns-clause-made
returns-clause-made c =
    let given = c.args.given in
    let every = every_of given.asked in
    let p = given.p in
    let action = string_bytes (arc_value c.args.action.now) in
    let named = map row_of c.in_ok-rows.rows.items in
    let star = map row_of c.in_ok-starred.starred.items in
    let lined = map row_of c.in_ok-further.further.items in
    let first : map row_of c.append.new.self.items ≡ named ++ star =
    ap (map row_of) c.in_ok-append.ensures.items ∙ map-append row_of c.in_ok-rows.rows.items c.in_ok-starred.starred.items in
    let all : map row_of c.append-2.new.self.items ≡ (named ++ star) ++ lined =
    ap (map row_of) c.in_ok-append-2.ensures.items ∙ map-append row_of c.append.new.self.items c.in_ok-further.further.items
    ∙ ap (λ xs. xs ++ lined) first in
    record {
      named = named;
      are_named = c.in_ok-rows.ensures.made;
      star = star;
      is_star = c.in_ok-starred.ensures.made;
      lined = lined;
      are_lined = subst (λ (n : ℕ). AreJoined (AreOfLine every p action) (range_with_len 0 n) lined) (sym (length-map given.asked.lines.now line_of))
          c.in_ok-further.ensures.made;
      are = all;
    }
