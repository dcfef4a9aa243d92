-- The definitions that the contracts cite: what a correction of a record promises.
pub mod Yarn
