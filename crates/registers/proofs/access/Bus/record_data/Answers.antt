use Prim.Native.Nat.{ℕ, ◌-◌}
use native.Mathlib.Omega.{arith}
use mathlib.Core.Path.{◌≡◌, refl, sym, ap}
use mathlib.Core.List.{List}
use Rattle.registers.specs.declared.Progress.{Progress}
use Rattle.registers.specs.declared.access.Bus.{Bus}
use Rattle.registers.specs.State.{State, at, received}
use Rattle.registers.specs.Contract.{Fits, TakesByte}
use Rattle.registers.proofs.Steps.{data_step, read-counts, same_then}
use Rattle.registers.proofs.access.Bus.record_data.Goals as goal

progress_of : State → Progress
progress_of (at rs lg rx b) = b

log_of : State → List ℕ
log_of (at rs lg rx b) = lg

-- a byte that is received takes no room
still_fits : {v : ℕ} {b b' : Bus} → TakesByte v b b' → (n : ℕ) → Fits b n → Fits b' n
unfolding received progress_of log_of
still_fits {b = b} {b'} x n h =
    let u : b'.progress.used ≡ b.progress.used = ap (λ (st : State). (progress_of st).used) x.is in
    let m : b'.progress.made ≡ b.progress.made = ap (λ (st : State). (progress_of st).made) x.is in
    let l : b'.log.now ≡ b.log.now = ap log_of x.is in
    rw (x.same.readings, u, l, m) h

pub take_byte-requires : goal.take_byte-requires
take_byte-requires c = let n = read-counts c.record_read-word.ensures.reads refl in omega arith

pub returns : goal.returns
returns c =
    let x = c.record_read-word.ensures in
    let y = c.take_byte.ensures in
    record {
      does = data_step x.reads (same_then x.reads.same y.same) (sym y.is);
      fits = λ n h. still_fits y (n - 1) (x.fits n h);
    }
