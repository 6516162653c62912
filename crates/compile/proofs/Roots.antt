-- The destination and the root.
use Rattle.std.specs.Prelude.{Option, Some, None, Result}
use Rattle.faults.specs.declared.Fault.{Fault}
use mathlib.Core.Path.{◌≡◌, refl, sym, ap, subst, ◌∙◌}
use mathlib.Core.List.{List}
use Prim.Native.Nat.{ℕ, ◌-◌, ◌≤◌, min}
use native.Mathlib.Omega.{arith}
use lib.ListN.{length}
use Rattle.faults.specs.Limits.{max_registers}
use Rattle.table.specs.Table.{node_count}
use Rattle.value.specs.Value.{datums}
use Rattle.emit.specs.declared.state.St.{St}
use Rattle.emit.specs.Read.{Bufs, bufs, st_of, Says}
use Rattle.codegen.specs.Gen.{Value, into_d}
use Rattle.codegen.specs.Rules.{Ready}
use Rattle.compile.specs.Compile.{start, dst_of, root_d}
use Rattle.compile.specs.Parts.{Root, IsRegister}
use Rattle.emit.proofs.Laws.{says-by}

pub register-fits : {dest : Option ℕ} {r : ℕ} → dest ≡ Some r → IsRegister dest → r ≤ max_registers
register-fits e h = subst IsRegister e h

pub dst-reg : {dest : Option ℕ} {r : ℕ} → dest ≡ Some r → Some r ≡ dst_of dest
dst-reg e = sym (ap dst_of e)

abbrev begun : ℕ → St
begun b = record { count = 0; slots = 0; next = b; frame = b }

module _ (c k p : List ℕ) (b : ℕ) where
  -- nothing is emitted yet
  started : st_of (bufs c k p) (begun b) ≡ start (length c) (min (length k) (length p)) b
  unfolding datums
  started = refl

  pub root-ready : {t : List ℕ} → Root t → Ready t (bufs c k p) (node_count t - 1) (begun b)
  unfolding datums
  root-ready r =
      record {
        base = r.base;
        node = r.node;
        low = r.low;
        fit = record { words = omega arith; consts = record { in_kinds = omega arith; in_payloads = omega arith; as_kinds = refl; as_payloads = refl } };
      }

  module _ (v : Value) (room : ℕ) {out : Bufs} {r : Result (ℕ × St) Fault} {dst : Option ℕ} where
    pub root-any : dst ≡ None → Says out r (v None room (st_of (bufs c k p) (begun b))) → Says out r (root_d v dst room (start (length c) (min (length k) (length p)) b))
    unfolding root_d
    root-any e h = says-by (ap (v None room) started ∙ sym (ap (λ (d : Option ℕ). root_d v d room (start (length c) (min (length k) (length p)) b)) e)) h

    pub root-to : {d : ℕ} → dst ≡ Some d → Says out r (into_d v d room (st_of (bufs c k p) (begun b))) → Says out r (root_d v dst room (start (length c) (min (length k) (length p)) b))
    unfolding root_d
    root-to {d} e h = says-by (ap (into_d v d room) started ∙ sym (ap (λ (d : Option ℕ). root_d v d room (start (length c) (min (length k) (length p)) b)) e)) h

pub ruleset roots = (root-ready, root-any, root-to)
