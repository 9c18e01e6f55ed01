use Rattle.std.proofs.Common.{◌≡◌, ◌+◌, ◌<◌, ◌∙◌, get_or, length, ap, sym, subst, arith}
use Rattle.std.proofs.lemmas.Option.{get_or_from_slice_get}
use Rattle.iam_tiles.specs.Code.Numbered.{no_tail}
use Rattle.iam_changes.specs.Code.Kept.{cell_behind, end_of, placed, row_at}
use Rattle.iam_changes.specs.Code.Pieces.{PartValue}
use Rattle.iam_changes.proofs.Placed.{behind, behind_is, length_placed, placed_below, placed_cell}
use Rattle.iam_changes.proofs.part.Part.cell.Goals as goal

pub at-requires : goal.at-requires
at-requires c =
    let own = c.self.inside in
    let count = length_placed own.from own.gaps own.tile c.self.invariant.0 in
    let same = ap (λ (v : PartValue). length v.rows) c.self.view_is in
    omega (arith, c.requires.row, count, same, c.self.invariant.0)

cells : (c : goal.After-from) → (c.args.behind + c.from.result ≡ (get_or (placed c.self.inside.from c.self.inside.gaps c.self.inside.tile) c.args.i (0, no_tail)).0)
    × ((get_or (placed c.self.inside.from c.self.inside.gaps c.self.inside.tile) c.args.i (0, no_tail)).0 < end_of c.self.inside.from c.self.inside.gaps)
cells c =
    let own = c.self.inside in
    let i = c.args.i in
    let rows = placed own.from own.gaps own.tile in
    let view : PartValue = record { from = own.from; rows = rows; kinds = own.kinds } in
    let B : PartValue → Type 0 = λ v. c.args.behind ≡ cell_behind v i in
    let count = length_placed own.from own.gaps own.tile c.self.invariant.0 in
    let same = ap (λ (v : PartValue). length v.rows) c.self.view_is in
    let inside : i < length own.tile = omega (arith, c.requires.row, count, same) in
    let before : c.args.behind ≡ behind own.from rows i (0, no_tail) = subst B (sym c.self.view_is) c.requires.behind ∙ behind_is view i in
    let gap : c.from.result ≡ get_or own.gaps i 0 = c.from.ensures ∙ sym (get_or_from_slice_get own.gaps i c.at.result 0 c.at.ensures) in (
      ap (λ n. n + c.from.result) before ∙ ap (λ n. behind own.from rows i (0, no_tail) + n) gap
          ∙ sym (placed_cell own.from own.gaps own.tile i (0, no_tail) c.self.invariant.0 inside),
      placed_below own.from own.gaps own.tile i (0, no_tail) c.self.invariant.0 inside,
    )

pub overflow_add-result : goal.overflow_add-result
overflow_add-result c = omega (arith, cells c, c.self.invariant.1)

pub returns : goal.returns
returns c =
    record {
      cell = (cells c).0 ∙ ap (λ (v : PartValue). (row_at v c.args.i).0) c.self.view_is;
      small = omega (arith, cells c, c.self.invariant.1);
    }
