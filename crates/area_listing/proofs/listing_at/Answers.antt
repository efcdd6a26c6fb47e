-- `area_listing::listing_at` meets its contract: the head and the runs at a place are those of its transfer.
-- Assumes nothing.
use borrow.Author.Rules.{rules}
use Rattle.area.proofs.StampLaws.{stamp_told}
use Rattle.area_listing.proofs.ListingLaws.{listing_is}
use Rattle.area_listing.proofs.listing_at.Goals as goal

pub returns : goal.returns
returns c =
    let a = c.args in
    listing_is a.area.now a.i c.key_at-key.result c.rows_at-rows.result c.edge_of-edge.result c.is_complete-complete.result
    c.received_of-received.result _ c.key_at-key.ensures c.rows_at-rows.ensures c.edge_of-edge.ensures c.is_complete-complete.ensures c.received_of-received.ensures
    (stamp_told a.area.now a.i _ c.head-stamped.ensures c.requires.told)
