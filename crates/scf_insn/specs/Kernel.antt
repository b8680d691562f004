-- The kernel's constants, each named after the one of its header.
use Rattle.std.specs.Prelude.{ℕ, ◌*◌}

-- AUDIT_ARCH_X86_64 (linux/audit.h): the architecture of a call of x86-64
abbrev pub audit_arch_x86_64 : ℕ
audit_arch_x86_64 = 0xc000003e

-- __X32_SYSCALL_BIT (asm/unistd.h): the first number of an x32 call
abbrev pub x32_syscall_bit : ℕ
x32_syscall_bit = 0x40000000

-- SECCOMP_RET_.. (linux/seccomp.h): answers, in the order of precedence
abbrev pub seccomp_ret_kill_process : ℕ
seccomp_ret_kill_process = 0x80000000

abbrev pub seccomp_ret_errno : ℕ
seccomp_ret_errno = 0x00050000

abbrev pub seccomp_ret_allow : ℕ
seccomp_ret_allow = 0x7fff0000

-- BPF_MAXINSNS (linux/bpf_common.h): the most instructions of a filter
abbrev pub bpf_maxinsns : ℕ
bpf_maxinsns = 4096

-- BPF_MEMWORDS (linux/filter.h): the scratch words of a filter
abbrev pub bpf_memwords : ℕ
bpf_memwords = 16

-- sizeof(struct sock_filter) (linux/filter.h): the bytes of an instruction
abbrev pub sock_filter_len : ℕ
sock_filter_len = 8

-- sizeof(struct seccomp_data) (linux/seccomp.h): the bytes of a call record
abbrev pub seccomp_data_len : ℕ
seccomp_data_len = 64

-- the length of args of struct seccomp_data (linux/seccomp.h): the arguments of a call
abbrev pub seccomp_data_args : ℕ
seccomp_data_args = 6

-- MAX_INSNS_PER_PATH (kernel/seccomp.c): the most that the filters of a stack may cost together
abbrev pub max_insns_per_path : ℕ
max_insns_per_path = 32768

-- the most bytes of a filter file: those of the most instructions
abbrev pub max_filter_len : ℕ
max_filter_len = sock_filter_len * bpf_maxinsns
