-- The architectures that a profile can name (OCI runtime specification, config-linux.md, seccomp), and which call
-- records are theirs (Linux uapi audit.h, asm/unistd.h).
use Rattle.std.specs.Prelude.{◌≡◌, ℕ, ◌-◌, ◌^◌, ◌<◌, ◌≤◌, List, [], ◌∷◌, codes}
use Rattle.scf_insn.specs.declared.architecture.Architecture.{Architecture}
use Rattle.scf_insn.specs.declared.architecture.Architecture.TheVariants.{X8664, X86, X32, Aarch64, Arm, Riscv64, Ppc64le, Mipsel, Mipsel64, Mipsel64n32, Loongarch64}
use Rattle.scf_insn.specs.declared.architecture.ArgumentBits.{ArgumentBits}
use Rattle.scf_insn.specs.declared.architecture.ArgumentBits.TheVariants.{Bits32, Bits64}
use Rattle.scf_insn.specs.declared.record.CallRecord.{CallRecord}
use Rattle.scf_insn.specs.Kernel.{audit_arch_x86_64, x32_syscall_bit}
use Rattle.scf_insn.specs.Words.{argument, low}

-- What is known of an architecture: the value of `arch` in its records, its first and its last syscall number, how wide
-- its arguments are, its name in a profile, and the kind of part that holds its syscall table in a bundle.
pub record Row : Type 0 where
  pub audit : ℕ
  pub first : ℕ
  pub last : ℕ
  pub bits : ArgumentBits
  pub name : List ℕ
  pub part : List ℕ

abbrev row : ℕ → ℕ → ℕ → ArgumentBits → List ℕ → List ℕ → Row
row audit first last bits name part =
    record { audit = audit; first = first; last = last; bits = bits; name = name; part = part }

-- a row with every number
abbrev whole_row : ℕ → ArgumentBits → List ℕ → List ℕ → Row
whole_row audit bits name part = row audit 0 (2 ^ 32 - 1) bits name part

-- the audit values are AUDIT_ARCH_.. of linux/audit.h
abbrev pub row_of : Architecture → Row
row_of X8664 = row audit_arch_x86_64 0 (x32_syscall_bit - 1) Bits64 (codes "SCMP_ARCH_X86_64") (codes "table")
row_of X86 = whole_row 0x40000003 Bits32 (codes "SCMP_ARCH_X86") (codes "table-x86")
row_of X32 = row audit_arch_x86_64 x32_syscall_bit (2 ^ 32 - 1) Bits32 (codes "SCMP_ARCH_X32") (codes "table-x32")
row_of Aarch64 = whole_row 0xc00000b7 Bits64 (codes "SCMP_ARCH_AARCH64") (codes "table-aarch64")
row_of Arm = whole_row 0x40000028 Bits32 (codes "SCMP_ARCH_ARM") (codes "table-arm")
row_of Riscv64 = whole_row 0xc00000f3 Bits64 (codes "SCMP_ARCH_RISCV64") (codes "table-riscv64")
row_of Ppc64le = whole_row 0xc0000015 Bits64 (codes "SCMP_ARCH_PPC64LE") (codes "table-ppc64le")
row_of Mipsel = whole_row 0x40000008 Bits32 (codes "SCMP_ARCH_MIPSEL") (codes "table-mipsel")
row_of Mipsel64 = whole_row 0xc0000008 Bits64 (codes "SCMP_ARCH_MIPSEL64") (codes "table-mipsel64")
row_of Mipsel64n32 = whole_row 0xe0000008 Bits32 (codes "SCMP_ARCH_MIPSEL64N32") (codes "table-mipsel64n32")
row_of Loongarch64 = whole_row 0xc0000102 Bits64 (codes "SCMP_ARCH_LOONGARCH64") (codes "table-loongarch64")

-- all of them, in this order
abbrev pub architectures : List Architecture
architectures =
    X8664 ∷ X86 ∷ X32 ∷ Aarch64 ∷ Arm ∷ Riscv64 ∷ Ppc64le ∷ Mipsel ∷ Mipsel64 ∷ Mipsel64n32 ∷ Loongarch64 ∷ []

-- the call record is of the architecture
pub record IsOf (architecture : Architecture) (call : CallRecord) : Type 0 where
  pub arch : call.arch ≡ (row_of architecture).audit
  pub first : (row_of architecture).first ≤ call.nr
  pub last : call.nr ≤ (row_of architecture).last

-- Two architectures have no call record in common: where `arch` is one value, the numbers of the second follow those of
-- the first.
abbrev pub AreApart : Architecture → Architecture → Type 0
AreApart first later = (row_of first).audit ≡ (row_of later).audit → (row_of first).last < (row_of later).first

-- the greatest argument
abbrev pub greatest_argument : ArgumentBits → ℕ
greatest_argument Bits32 = 2 ^ 32 - 1
greatest_argument Bits64 = 2 ^ 64 - 1

-- What the conditions of a profile compare of a register of 64 bits: all of it, or its low half. Of x32's syscalls the
-- kernel hands those below 512 the whole register; libseccomp compares the low half of all, and so does this.
abbrev pub taken_of : ArgumentBits → ℕ → ℕ
taken_of Bits32 register = low register
taken_of Bits64 register = register

-- the argument at an index, as conditions of the architecture's profile compare it
abbrev pub argument_in : Architecture → CallRecord → ℕ → ℕ
argument_in architecture call i = taken_of (row_of architecture).bits (argument call i)
