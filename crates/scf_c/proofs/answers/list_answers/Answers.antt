use Rattle.std.proofs.Common.{Some, rules}
use Rattle.scf_c.proofs.answers.list_answers.Goals as goal

pub returns-in-Some-clause-listed : goal.returns-in-Some-clause-listed
returns-in-Some-clause-listed c = record {
  read = c.in_ok-read.read;
  pairings = c.in_ok-pairings.pairings.items;
  walks = Some c.in-Some.walks.items;
  is_side = c.in_ok-read.ensures.read;
  are_paired = rw c.new.ensures at c.in_ok-pairings.ensures.paired;
  some = search rules;
  lists = rw c.deref.ensures.value at (rw c.in-Some.is at c.in_ok-walks.ensures);
  listing_is = rw c.left_out_of_side-left_out.ensures at c.in_ok-listed_of-in-Some.ensures.listing;
  regions_are = rw c.deref-in-Some.ensures.value at c.in_ok-listed_of-in-Some.ensures.regions;
  facts_are = rw c.deref-in-Some.ensures.value at c.in_ok-listed_of-in-Some.ensures.facts;
}
