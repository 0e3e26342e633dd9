mod Crews
mod Gatherings
mod Jobs
mod Lists
mod Serving
mod Statuses
