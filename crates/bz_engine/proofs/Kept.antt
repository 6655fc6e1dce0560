-- What a session always keeps to, from one step to the next.
use Rattle.std.proofs.Common.{◌≡◌, ℕ, ◌+◌, ◌*◌, ◌<◌, ◌≤◌, ◌^◌, Bool, true, false, List, [], length, length-append, take, sym, ◌∙◌, ap, subst, arith}
use Rattle.std.proofs.lemmas.Bool.{false≢true}
use Rattle.bz_devices.specs.Ahead.{Ahead, IsReadOn}
use Rattle.bz_devices.proofs.ReadOn.{read_nothing}
use Rattle.bz_engine.specs.declared.session.SessionState.{SessionState}
use Rattle.bz_engine.specs.declared.session.SessionState.TheVariants.{Going, Ended, Stopped}
use Rattle.bz_engine.specs.Scripts.{AreCommands}
use Rattle.bz_engine.specs.SessionValue.{SessionValue, IsSession}
use Rattle.bz_engine.specs.private.NextChunks.{CanTake}
use Rattle.std.specs.List.{concat}

abbrev is_stopped : SessionState → Bool
is_stopped Going = false
is_stopped (Ended end) = false
is_stopped Stopped = true

-- a session that was stopped keeps to its limits alone
stopped_session : (v : SessionValue) → v.state ≡ Stopped → v.options.max_reads ≤ 2 ^ 50 → v.ahead.reads ≤ v.options.max_reads → AreCommands v.passes → IsSession v
stopped_session v stopped limit made commands = record {
  limit = limit;
  made = made;
  ready = λ going. absurd (false≢true (sym (ap is_stopped going) ∙ ap is_stopped stopped));
  fits = λ end ended. absurd (false≢true (sym (ap is_stopped ended) ∙ ap is_stopped stopped));
  commands = commands;
}

-- more was read
pub session_ahead : (v w : SessionValue) (mid : Ahead) (read : List (List ℕ)) → v ≡ w → IsSession w → w.state ≡ Stopped → IsReadOn v.options.max_reads v.ahead mid read
    → IsSession (record v { ahead = mid })
session_ahead v w mid read same kept stopped on =
    let after : SessionValue = record v { ahead = mid } in
    stopped_session after (ap (λ x. x.state) same ∙ stopped) (subst (λ x. x.options.max_reads ≤ 2 ^ 50) (sym same) kept.limit) on.within
    (subst (λ x. AreCommands x.passes) (sym same) kept.commands)

-- each line has a byte
pub lines_read : (v : SessionValue) (mid : Ahead) (max_reads : ℕ) (read : List (List ℕ)) → v.progress.line + length v.ahead.bytes ≤ 1 + 8192 * v.ahead.reads → IsReadOn max_reads v.ahead mid read
    → v.progress.line + length mid.bytes ≤ 1 + 8192 * mid.reads
lines_read v mid max_reads read lines on =
    let all : length mid.bytes ≡ length v.ahead.bytes + length (concat read) = ap length on.bytes ∙ length-append v.ahead.bytes (concat read) in
    summed v.progress.line (length v.ahead.bytes) (length mid.bytes) (length (concat read)) v.ahead.reads mid.reads (length read) lines all on.reads on.few
  where
    summed : (line vb mb jr vr mr r : ℕ) → line + vb ≤ 1 + 8192 * vr → mb ≡ vb + jr → mr ≡ vr + r → jr ≤ 8192 * r → line + mb ≤ 1 + 8192 * mr
    summed line vb mb jr vr mr r a b c d = omega arith

pub lines_fit : (v : SessionValue) (mid : Ahead) (n : ℕ) (read : List (List ℕ)) → v.progress.line + length v.ahead.bytes ≤ 1 + 8192 * v.ahead.reads → IsReadOn v.options.max_reads v.ahead mid read
    → v.options.max_reads ≤ 2 ^ 50 → n ≤ length mid.bytes → v.progress.line + n < 2 ^ 64
lines_fit v mid n read lines on limit within =
    small v.progress.line (length mid.bytes) mid.reads v.options.max_reads n (lines_read v mid v.options.max_reads read lines on) on.within limit within
  where
    small : (line mb mr m n : ℕ) → line + mb ≤ 1 + 8192 * mr → mr ≤ m → m ≤ 2 ^ 50 → n ≤ mb → line + n < 2 ^ 64
    small line mb mr m n a b c d = omega arith

-- the lines ahead are counted
pub lines_ahead : (v : SessionValue) → CanTake v → v.ahead.reads ≤ v.options.max_reads → v.options.max_reads ≤ 2 ^ 50 → v.progress.line + length v.ahead.bytes < 2 ^ 64
lines_ahead v take made limit = small v.progress.line (length v.ahead.bytes) v.ahead.reads v.options.max_reads take.lines made limit
  where
    small : (line b r m : ℕ) → line + b ≤ 1 + 8192 * r → r ≤ m → m ≤ 2 ^ 50 → line + b < 2 ^ 64
    small line b r m x y z = omega arith

-- nothing was read
pub unread : (v w : SessionValue) (mid : Ahead) → v ≡ w → IsSession v → v.ahead ≡ mid → IsReadOn w.options.max_reads w.ahead mid []
unread v w mid same kept is =
    subst (λ x. IsReadOn x.options.max_reads x.ahead mid []) same
    (subst (λ a. IsReadOn v.options.max_reads v.ahead a []) is (read_nothing v.options.max_reads v.ahead kept.made))
