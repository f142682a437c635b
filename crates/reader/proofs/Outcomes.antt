-- Any two outcomes that a statement allows coincide. Here `One` is stated of the very `clauses` that the check makes of
-- the source: at every model the `ensures` is one plain fact, by computation, and antt reads it off, so there is no
-- copy of it to go stale. RULES, one-outcome. Assumes nothing.
use Prim.Native.Nat.{ℕ}
use mathlib.Core.Path.{◌≡◌, refl}
use mathlib.Core.List.{List}
use seplogic.Ra.Ura.{Ura}
use base.Logic.{SProp}
use prog.Memory.{Memory}
use prog.Routine.{Routine}
use types.Logic.{Logic}
use contract.Lifetimes.{Lfts}
use contract.Monad.{Fun, fact}
use denote.Ref.{Bor}
use denote.Signature.{Signature}
use denote.Triple.Clauses.{Clauses, Ended, AtExit}
use denote.Triple.Entry.{Args, Res}
use Rattle.doubles.proofs.Outcomes.{equal}
use Rattle.reader.specs.declared.Reader.{Reader}
use Rattle.reader.specs.contracts.Reader.new as new
use Rattle.reader.specs.contracts.Reader.next as next
use Rattle.reader.specs.contracts.Reader.moved as moved

module _ (T : Ended) (c : (M : Type 1) (𝓤 : Ura M) (𝓛 : Logic 𝓤) → (Memory → SProp 𝓤) → (Routine → Fun 𝓤) → Clauses 𝓤 T) where
  abbrev S : Signature
  S = T.signature

  -- the plain fact that the `ensures` is
  abbrev pub Reading : Type 2
  Reading =
      (κs : Lfts S.lifetimes) (a : Args S κs) (x : Res S κs) (s : AtExit T κs)
      → (φ : Type 0) × ((M : Type 1) (𝓤 : Ura M) (𝓛 : Logic 𝓤) (mem : Memory → SProp 𝓤) (run : Routine → Fun 𝓤) (g : (c M 𝓤 𝓛 mem run κs a).ghost) → (c M 𝓤 𝓛 mem run κs a).ensures g x s ≡ fact 𝓤 φ)

  -- at the same arguments a, whatever the parameters are at exit, two results that the fact holds of are one
  abbrev pub One : Reading → Type 0
  One reads = (κs : Lfts S.lifetimes) (a : Args S κs) (x y : Res S κs) (s t : AtExit T κs) → (reads κs a x s).0 → (reads κs a y t).0 → x ≡ y

abbrev pub new_reads : Reading new.ended (λ M 𝓤. new.clauses)
new_reads κs a x s = (_, λ M 𝓤 𝓛 mem run g. refl)

abbrev pub next_reads : Reading next.ended (λ M 𝓤. next.clauses)
next_reads κs a x s = (_, λ M 𝓤 𝓛 mem run g. refl)

abbrev pub moved_reads : Reading moved.ended (λ M 𝓤. moved.clauses)
moved_reads κs a x s = (_, λ M 𝓤 𝓛 mem run g. refl)

same_reader : (s t : Bor (List ℕ)) (m n : ℕ) → s ≡ t → m ≡ n → ◌≡◌ {A = Reader} (record { trace = s; at = m }) (record { trace = t; at = n })
same_reader s t m n p q = rw (p, q)

-- a reader is its two fields
by_fields : (x y : Reader) {s : Bor (List ℕ)} {n : ℕ} → (x.trace ≡ s) × (x.at ≡ n) → (y.trace ≡ s) × (y.at ≡ n) → x ≡ y
by_fields x y p q = same_reader x.trace y.trace x.at y.at (equal p.0 q.0) (equal p.1 q.1)

pub one_new : One new.ended (λ M 𝓤. new.clauses) new_reads
one_new κs a x y s t = by_fields x y

pub one_next : One next.ended (λ M 𝓤. next.clauses) next_reads
one_next κs a x y s t = equal

pub one_moved : One moved.ended (λ M 𝓤. moved.clauses) moved_reads
one_moved κs a x y s t = by_fields x y
