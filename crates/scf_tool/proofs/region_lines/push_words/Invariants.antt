use Rattle.scf_tool.proofs.Common.{◌≡◌, ◌++◌, string_bytes}
use Rattle.scf_tool.specs.RegionLines.{words_text}
use Rattle.scf_tool.proofs.region_lines.push_words.Given as goal

abbrev pub invariant-loop-index : goal.invariant-loop-index
invariant-loop-index l = string_bytes l.text ≡ string_bytes l.fn.text ++ words_text l.index l.words
