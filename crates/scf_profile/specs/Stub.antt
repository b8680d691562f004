-- The stub that runc puts before its filter (libcontainer/seccomp/patchbpf, findLastSyscalls and generatePatch). A
-- syscall whose number is above all that the profile names in an architecture is newer than the profile, and fails with
-- ENOSYS, as on a kernel that doesn't have it.
use Rattle.std.specs.Prelude.{ℕ, ◌+◌, Bool, false, Option, Some, None, nat_le}
use Rattle.scf_insn.specs.Kernel.{seccomp_ret_errno}

-- ENOSYS (asm-generic/errno.h): the kernel has no such syscall
abbrev pub enosys : ℕ
enosys = 38

-- the stub's answer
abbrev pub stub_answer : ℕ
stub_answer = seccomp_ret_errno + enosys

-- Whether a stub, if there is one, answers a syscall number, both as in a call record: from the stub's first number on.
abbrev pub is_stubbed : Option ℕ → ℕ → Bool
is_stubbed None nr = false
is_stubbed (Some first) nr = nat_le first nr
