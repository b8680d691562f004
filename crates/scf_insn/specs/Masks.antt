-- Masks of 32 bits, by the bits that they have.
use Rattle.std.specs.Prelude.{ℕ, ◌-◌, ◌^◌, ◌==◌, if◌then◌else◌}
use Rattle.std.specs.Int.{is_power_of_two}
use Rattle.scf_insn.specs.declared.mask.MaskKind.{MaskKind}
use Rattle.scf_insn.specs.declared.mask.MaskKind.TheVariants.{Empty, OneBit, Full, Mixed}

-- the kind of a mask: it has none of the bits, all of them, one, or others
abbrev pub mask_kind : ℕ → MaskKind
mask_kind mask =
    (if mask == 0 then Empty else if mask == 2 ^ 32 - 1 then Full else if is_power_of_two mask then OneBit else Mixed)
