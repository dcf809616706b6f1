use Rattle.std.proofs.Common.{◌≡◌, ℕ, ◌+◌, Bool, sym, subst, arith}
use Rattle.xp_subs.specs.Tables.{station_count}
use Rattle.xp_summary.proofs.SelectionLemmas.{SoFar, one_selecting, one_never, needs, needed}
use Rattle.xp_summary.proofs.station_warnings.needs_selection.Goals as goal
use Rattle.xp_summary.proofs.station_warnings.needs_selection.Goals.{in-Selecting, in-Never}

pub loop-called-preserved : goal.loop-called-preserved
loop-called-preserved c =
    let S : Bool → Type 0 = λ selects. SoFar c.args.subs.now c.args.caller (c.loop-called.called + 1) selects in
    elim c.match-reach_between.branch [
      | in-Selecting w ↦
          subst S (sym w.selects-is)
          (one_selecting c.args.subs.now c.args.caller c.loop-called.called c.loop-called.selects c.loop-called.invariant w.in-Selecting.ensures)
      | in-Never w ↦
          subst S (sym w.selects-is)
          (one_never c.args.subs.now c.args.caller c.loop-called.called c.loop-called.selects c.loop-called.invariant w.in-Never.ensures)
    ]

pub returns : goal.returns
returns c =
    let all : c.loop-called.called ≡ station_count c.args.subs.now = omega arith in
    let P : ℕ → Type 0 = λ past. SoFar c.args.subs.now c.args.caller past c.loop-called.selects in
    let so_far = subst P all c.loop-called.invariant in (
      needs c.args.subs.now c.args.caller c.loop-called.selects so_far,
      needed c.args.subs.now c.args.caller c.loop-called.selects so_far,
    )
