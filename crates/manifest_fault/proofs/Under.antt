-- Faults one step further out.
use Rattle.manifest_schema.specs.Prelude.{AllocError, Path, Step, Cause as SchemaCause, under}
use Rattle.manifest_fault.specs.Faults.{FaultIn, IsUnder, path_of}
use Rattle.manifest_fault.specs.declared.fault.ReadFault.{ReadFault}
use Rattle.manifest_fault.specs.declared.fault.ReadFault.TheVariants.{Schema, Memory}

pub fault_weaker : (P Q : Path → SchemaCause → Type 0) (f : ReadFault) → ((p : Path) (c : SchemaCause) → P p c → Q p c)
    → FaultIn P f → FaultIn Q f
fault_weaker P Q (Schema f) w h = w _ _ h
fault_weaker P Q (Memory e) w h = tt

-- the fault g is f one step further out
pub fault_under : (P : Path → SchemaCause → Type 0) (s : Step) (f g : ReadFault) → FaultIn P f → IsUnder s f g
    → FaultIn (under s P) g
fault_under P s (Memory e) (Memory e') h k = tt
fault_under P s (Memory e) (Schema g) h k = absurd k
fault_under P s (Schema f) (Memory e) h k = tt
fault_under P s (Schema f) (Schema g) h k = (path_of f.path, k.0, rw k.1 h)

-- out of memory stands for any fault
pub memory_under : (s : Step) (f : ReadFault) (e : AllocError) → IsUnder s f (Memory e)
memory_under s (Schema f) e = tt
memory_under s (Memory e') e = tt
