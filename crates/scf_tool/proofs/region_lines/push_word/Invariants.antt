use Rattle.std.specs.Fmt.{decimal}
use Rattle.std.specs.Prelude.{◌==◌, if◌then◌else◌}
use Rattle.scf_tool.proofs.Common.{◌≡◌, ◌++◌, [], codes, flat_map, string_bytes, take}
use Rattle.scf_tool.specs.RegionLines.{bits_text, intervals_text}
use Rattle.scf_tool.proofs.region_lines.push_word.Given as goal

abbrev pub invariant-loop-bits : goal.invariant-loop-bits
invariant-loop-bits l = record {
  items : l.bits-items ≡ l.word.refuted;
  written : string_bytes l.text ≡ string_bytes l.fn.text ++ (codes " w" ++ (decimal l.fn.index ++ (codes " "
      ++ (intervals_text l.word.intervals
      ++ ((if l.word.known.mask == 0 then [] else bits_text (codes "&") l.word.known)
      ++ flat_map (bits_text (codes "!")) (take l.bits-index l.bits-items))))));
}
