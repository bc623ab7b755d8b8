-- Laws of upload planning: the least bytes; the lists that cover what differs; what packets do to maps; and the theorems: demand
-- 3 about whole lists of packets (rule 7.3), that the plan is the list that rule 6.2 fixes, and what room and choices hold
-- (RoomMeans). CostBehind, Rooms, Walk and Outcome speak of the code that plans: what it carries, its loops, and what it promises.
-- Determined: the plain promises alone determine every answer.
pub mod Best
pub mod CostBehind
pub mod Least
pub mod Rooms
pub mod Covers
pub mod Differs
pub mod Reading
pub mod Lists
pub mod Choice
pub mod Bytes
pub mod Announced
pub mod Walk
pub mod PartInLists
pub mod Outcome
pub mod RoomMeans
pub mod Examples
pub mod Plain
pub mod Determined
pub mod Small
