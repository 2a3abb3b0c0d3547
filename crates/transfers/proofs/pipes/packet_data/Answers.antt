-- `packet_data` copies a packet out of its area. Assumes nothing.
use Rattle.std.proofs.Common.{◌≡◌, ℕ, ◌+◌, ◌-◌, List, length, take, drop, ap, ap₂, ◌∙◌, arith, length-take, length-drop}
use lib.Seq.{sets}
use Rattle.pool.proofs.Stores.{put_sets}
use Rattle.transfers.proofs.OpenPipes.{zeros, copied}
use Rattle.transfers.proofs.pipes.packet_data.Goals as goal

pub returns : goal.returns
returns c =
    let a = c.args in
    let area = c.pipe_area-area in
    let kept = c.copy_from_slice.ensures.after in
    let n = simp (length-take, length-drop) at (ap length kept) in
    let room : area.result + a.k - area.result ≡ a.k = omega arith in
    put_sets 0 a.k (zeros 64) c.copy_from_slice.new.self (omega (arith, n, area.ensures)) (omega arith)
    ∙ ap (λ (v : List ℕ). sets (zeros 64) 0 v) kept
    ∙ ap₂ (λ (j k : ℕ). sets (zeros 64) 0 (take j (drop k a.pm.now))) room area.ensures
    ∙ copied a.pm.now a.n a.k (omega arith) (omega arith)
