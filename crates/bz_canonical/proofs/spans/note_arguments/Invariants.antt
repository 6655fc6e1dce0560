use Rattle.std.proofs.Common.{◌≡◌, ◌+◌, ℕ, List, length}
use Rattle.bz_canonical.specs.private.Noted.{AreNoted}
use Rattle.bz_canonical.specs.private.Pendings.{IsPending, Reads, pending}
use Rattle.bz_canonical.proofs.spans.note_arguments.Given as goal

abbrev pub invariant-loop : goal.invariant-loop
invariant-loop l = (l.place.stands + length l.at.rest.now ≡ l.notes.len)
    × ((text all : List ℕ) → IsPending text l.written.items all l.at.from.now l.at.rest.now → l.place.written ≡ length all)
    × Reads l.fn.written.items (pending l.from) l.written.items (pending l.at) (λ begun w. AreNoted l.notes l.from.rest.now l.at.rest.now begun w l.fn.spans.items l.spans.items l.one)
