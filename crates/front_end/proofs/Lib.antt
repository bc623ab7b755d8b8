-- Laws of the front end: the decision on a packet and what it bounds, the ways of a packet, replies, and the block's bytes; for the functions
-- here and for the entries above. Then the theorems over any packets: every reply reads back, bytes without a meaning and the live side are kept, and a state
-- in range stays in range.
pub mod Bounds
pub mod Reach
pub mod Sizes
pub mod Replies
pub mod Blocks
pub mod Steps
pub mod Marks
pub mod Demands
pub mod Grants
pub mod Changes
pub mod Accepting
pub mod ReadBack
pub mod Kept
pub mod Live
pub mod InRange
pub mod Applied
pub mod Same
pub mod Moves
pub mod Marking
pub mod Unmarked
pub mod Fresh
pub mod Effects
pub mod Plain
pub mod Handled
pub mod Determined
