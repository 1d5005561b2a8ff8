use Rattle.std.proofs.Common.{refl, ◌∙◌, arith, rules}
use Rattle.std.proofs.lemmas.Result.{err_from_is_err_and}
use Rattle.record.proofs.Read.{read_size}
use Rattle.rules.specs.Act.{world_of}
use Rattle.tape.proofs.Tails.{tail}
use Rattle.primal.proofs.Loop.{follows, refused_out, stopped-out}
use Rattle.primal.proofs.Checked.{checked_sound, refused_check}
use Rattle.primal.proofs.run.Goals as goal

pub returns-in_err-map_err : goal.returns-in_err-map_err
returns-in_err-map_err c =
    let p = err_from_is_err_and c.from_residual.result c.from_residual.ensures.1 in
    rw (p.1, p.2)
    (refused_check _ c.check.result _ _ c.check.ensures c.in_err-map_err.ensures.variant c.in_err-map_err.ensures.cases
    (λ n q r. refused_out _ _ _ _ _ n _ (search rules) (search rules) r))

pub returns-in-Err : goal.returns-in-Err
returns-in-Err c =
    stopped-out _ _ _ _ _ _ _ _ _ _ _ _ (checked_sound _ c.check.result c.check.ensures c.in_ok-map_err.ensures.variant) (search rules) c.loop-next.invariant.runs
    (follows _ _ _ _ _ c.room.ensures _ _ c.in-Err.ensures refl)

pub slice_bounds-rest-count : goal.slice_bounds-rest-count
slice_bounds-rest-count c =
    let l = c.loop-next in
    let f = follows (world_of l.table.words.now l.out l.written) _ l.handled _ _ c.room.ensures _ _ c.in-Ok.ensures refl in
    read_size _ _ _ f.1

pub slice_bounds-rest-start : goal.slice_bounds-rest-start
slice_bounds-rest-start c =
    let l = c.loop-next in
    let f = follows (world_of l.table.words.now l.out l.written) _ l.handled _ _ c.room.ensures _ _ c.in-Ok.ensures refl in
    read_size _ _ _ f.1

pub overflow_add-handled : goal.overflow_add-handled
overflow_add-handled c =
    let l = c.loop-next in
    let f = follows (world_of l.table.words.now l.out l.written) _ l.handled _ _ c.room.ensures _ _ c.in-Ok.ensures refl in
    omega (arith, f.0)

pub loop-next-smaller : goal.loop-next-smaller
loop-next-smaller c =
    let l = c.loop-next in
    let f = follows (world_of l.table.words.now l.out l.written) _ l.handled _ _ c.room.ensures _ _ c.in-Ok.ensures refl in
    omega (arith, f.0)

pub loop-next-preserved : goal.loop-next-preserved
loop-next-preserved c =
    let l = c.loop-next in
    let f = follows (world_of l.table.words.now l.out l.written) _ l.handled _ _ c.room.ensures _ _ c.in-Ok.ensures refl in
    record {
      runs = f.2 _ _ c.serve-written.ensures.0 (tail l.rest.now c.in-Ok.next.size) ∙ l.invariant.runs;
      handled = omega (arith, f.0, l.invariant.handled);
      same = c.serve-written.ensures.1 ∙ l.invariant.same;
    }
