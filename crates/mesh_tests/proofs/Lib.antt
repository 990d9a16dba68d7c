pub mod LeadingBack
