-- Laws of what a card goes on with: of keys (Keyed), of counts (Counting), of digits (Worth, Entering) and of entries (Fields); what the results tell (Told).
mod Keyed
mod Counting
mod Worth
mod Entering
pub mod Fields
pub mod Told
